-- `band_counts::eight::all_within` meets its contract. The invariant: the first i are tried. Assumes nothing.
use mathlib.Core.Path.{◌≡◌}
use Rattle.buffers.specs.Walk.{every}
use Rattle.within.specs.Within.{within_b}
use Rattle.band_counts.specs.Counts.{value_at}
use Rattle.band_counts.proofs.eight.all_within.Given as goal

abbrev pub invariant-loop-i : goal.invariant-loop-i
invariant-loop-i l = l.all ≡ every (λ s. within_b (value_at l.e s)) l.i
