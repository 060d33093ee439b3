-- `numbers::high::get_high` meets its contract: from the high byte down. Assumes nothing.
use Rattle.numbers.proofs.Loops.{Taken}
use Rattle.numbers.proofs.high.get_high.Given as goal

abbrev pub invariant-loop-byte : goal.invariant-loop-byte
invariant-loop-byte l = Taken l.byte-items l.byte-index l.number
