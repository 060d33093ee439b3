-- `factors::fill_tops` meets its contract. The invariant: the first b are stored. Assumes nothing.
use Rattle.buffers.proofs.Build.{Filled}
use Rattle.rules.specs.Factor.{peak_of}
use Rattle.factors.proofs.fill_tops.Given as goal

abbrev pub invariant-loop-b : goal.invariant-loop-b
invariant-loop-b l = Filled (peak_of l.spectra) l.initial.tops l.b l.tops
