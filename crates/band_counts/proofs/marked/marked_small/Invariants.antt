-- `band_counts::marked::marked_small` meets its contract. The invariant: the first i are counted. Assumes nothing.
use mathlib.Core.Path.{◌≡◌}
use Prim.Native.Nat.{◌*◌, ◌≤◌}
use Rattle.buffers.specs.Walk.{sum_to}
use Rattle.rules.specs.Estimate.{value_bits}
use Rattle.band_counts.specs.Counts.{value_at}
use Rattle.band_counts.proofs.marked.marked_small.Given as goal

abbrev pub invariant-loop-i : goal.invariant-loop-i
invariant-loop-i l = (l.count ≡ sum_to (λ s. value_bits l.mode l.r (value_at l.e s)) l.i) × (l.count ≤ 12 * l.i)
