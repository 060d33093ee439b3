-- `hca_answers::deliver` meets its contract. The invariant: the first i numbers stand at the front of the answer. Assumes nothing.
use mathlib.Core.Path.{◌≡◌}
use mathlib.Core.List.{◌++◌}
use lib.ListN.{take, drop}
use Rattle.hca_answers.proofs.deliver.Given as goal

abbrev pub invariant-loop-i : goal.invariant-loop-i
invariant-loop-i l = l.answer ≡ take l.i l.numbers ++ drop l.i l.initial.answer
