-- `scaling::scale_bands` meets its contract. The invariant: the first b bands are scaled. Assumes nothing.
use Rattle.scaling.specs.Bands.{Scaled}
use Rattle.scaling.proofs.scale_bands.Given as goal

abbrev pub invariant-loop-b : goal.invariant-loop-b
invariant-loop-b l = Scaled l.spectra l.used l.b l.scaled
