-- `first_bit` meets its contract. The invariant: no 1 was passed. Assumes nothing.
use Rattle.reader.specs.Ones.{ZerosBetween}
use Rattle.reader.proofs.fill.first_bit.Given as goal

abbrev pub invariant-loop-at : goal.invariant-loop-at
invariant-loop-at l = ZerosBetween l.part l.from l.at
