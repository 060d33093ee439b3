-- `floats::Average::with_eight` meets its contract. Assumes nothing.
use Rattle.floats.specs.Single.{add_abs}
use Rattle.floats.proofs.FoldLaws.{ToTake}
use Rattle.floats.proofs.Average.with_eight.Given as goal

abbrev pub invariant-loop-k : goal.invariant-loop-k
invariant-loop-k l = ToTake add_abs l.xs l.at l.stride l.initial.sum l.k l.sum
