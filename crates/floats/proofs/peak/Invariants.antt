-- `floats::peak` meets its contract. Assumes nothing.
use Rattle.floats.specs.Single.{max_abs}
use Rattle.floats.proofs.FoldLaws.{ToTake}
use Rattle.floats.proofs.peak.Given as goal

abbrev pub invariant-loop-k : goal.invariant-loop-k
invariant-loop-k l = ToTake max_abs l.xs l.at l.stride l.initial.top l.k l.top
