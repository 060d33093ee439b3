-- `band_counts::eight::eight_reached` meets its contract. The invariant: the first i are counted. Assumes nothing.
use mathlib.Core.Path.{◌≡◌}
use Prim.Native.Nat.{◌≤◌}
use Rattle.buffers.specs.Walk.{sum_to}
use Rattle.within.specs.Zones.{reached_f}
use Rattle.band_counts.specs.Counts.{value_at}
use Rattle.band_counts.proofs.eight.eight_reached.Given as goal

abbrev pub invariant-loop-i : goal.invariant-loop-i
invariant-loop-i l = (l.count ≡ sum_to (λ s. reached_f l.mark (value_at l.e s)) l.i) × (l.count ≤ l.i)
