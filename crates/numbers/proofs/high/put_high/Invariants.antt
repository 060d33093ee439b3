-- `numbers::high::put_high` meets its contract: from the low byte up. Assumes nothing.
use Rattle.numbers.proofs.Loops.{Stored}
use Rattle.numbers.proofs.high.put_high.Given as goal

abbrev pub invariant-loop-left : goal.invariant-loop-left
invariant-loop-left l = Stored l.initial.bytes l.at l.width l.number l.left l.rest l.bytes
