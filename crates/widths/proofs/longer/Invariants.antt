-- `widths::longer` meets its contract. The invariant: the first i lengths are stored. Assumes nothing.
use Prim.Native.Nat.{ℕ, ◌+◌}
use lib.ListN.{get_or}
use Rattle.buffers.proofs.Build.{Filled}
use Rattle.widths.specs.Walks.{later_bits}
use Rattle.widths.proofs.longer.Given as goal

abbrev pub invariant-loop-i : goal.invariant-loop-i
invariant-loop-i l = Filled (λ (i : ℕ). get_or l.fn.lengths i 0 + later_bits (i + 1) l.previous l.factor) l.initial.length-items l.i l.length-items
