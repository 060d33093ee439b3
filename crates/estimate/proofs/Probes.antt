-- A probe's bits against the frame's 8F say whether its level and boundary exceed. Assumes nothing.
use mathlib.Core.Path.{◌≡◌}
use mathlib.Core.Bool.{true, false}
use mathlib.Core.List.{List}
use Prim.Native.Nat.{ℕ, ◌*◌, ◌≤◌, ◌<◌}
use borrow.Author.Tests.{lt-ltb, le-ltb}
use lib.Ieee.{Float}
use Rattle.rules.specs.Layout.{frame_size}
use Rattle.rules.specs.Estimate.{used_bits, exceeds}
use Rattle.rules.specs.declared.Layout.{Layout}

module _ (l : Layout) (scaled : List Float) (factors : List ℕ) (level boundary bits : ℕ) (e : bits ≡ used_bits l scaled factors level boundary) where
  pub probe_over : 8 * frame_size l < bits → exceeds l scaled factors level boundary ≡ true
  unfolding exceeds
  probe_over h = rw (← e) (lt-ltb _ _ h)

  pub probe_fits : bits ≤ 8 * frame_size l → exceeds l scaled factors level boundary ≡ false
  unfolding exceeds
  probe_fits h = rw (← e) (le-ltb _ _ h)
