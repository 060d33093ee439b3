-- `numbers::low::get_low` meets its contract. Assumes nothing.
use Rattle.numbers.proofs.LowFirst.{Met}
use Rattle.numbers.proofs.low.get_low.Given as goal

abbrev pub invariant-loop-left : goal.invariant-loop-left
invariant-loop-left l = Met l.bytes l.at l.width l.number l.left
