-- `writer::values::legal_row` meets its contract. The invariant: the first i values are legal. Assumes nothing.
use mathlib.Core.Path.{◌≡◌}
use mathlib.Core.Bool.{Bool, true, cond}
use mathlib.Core.List.{List}
use Prim.Native.Nat.{ℕ}
use lib.Dec.{ltb, eqb}
use lib.ListN.{get_or}
use Rattle.buffers.specs.Walk.{every}
use Rattle.writer.proofs.values.legal_row.Given as goal

abbrev pub legal : ℕ → ℕ → List ℕ → ℕ → Bool
legal n m xs i = cond (ltb i n) (ltb (get_or xs i 0) m) (eqb (get_or xs i 0) 0)

abbrev pub invariant-loop-i : goal.invariant-loop-i
invariant-loop-i l = every (legal l.n l.limit l.values) l.i ≡ true
