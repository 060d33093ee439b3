-- `widths::chosen` meets its contract. The invariant: the best of 6 and of the first i widths. Assumes nothing.
use mathlib.Core.Path.{◌≡◌}
use Prim.Native.Nat.{◌+◌, ◌*◌, ◌≤◌}
use Rattle.widths.specs.Walks.{chosen_of}
use Rattle.widths.proofs.chosen.Given as goal

abbrev pub invariant-loop-i : goal.invariant-loop-i
invariant-loop-i l = (l.best ≡ chosen_of l.fn.lengths l.n l.i) × (l.best.bits ≤ 6) × (l.best.cost ≤ 3 + 6 * l.n)
