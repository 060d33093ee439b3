-- Where two boundaries are left the higher one's bits decide: past the frame the search stops at the lower, else at the higher. Assumes nothing.
use mathlib.Core.Path.{◌≡◌, refl}
use mathlib.Core.Bool.{Bool, true, false, cond}
use mathlib.Core.List.{List}
use Prim.Native.Nat.{ℕ, ◌*◌, ◌<◌, ◌≤◌}
use native.Mathlib.Omega.{arith}
use Rattle.std.proofs.lemmas.Bool.Decides.{nat_tests}
use lib.Dec.{eqb}
use lib.Ieee.{Float}
use Rattle.rules.specs.declared.Layout.{Layout}
use Rattle.rules.specs.Layout.{frame_size}
use Rattle.rules.specs.Estimate.{used_bits, exceeds}
use Rattle.rules.specs.Boundary.{last_of}
use Rattle.estimate.proofs.Probes.{probe_over, probe_fits}

-- whichever of the two tests it is
same_low : (b : Bool) (low : ℕ) → cond b low low ≡ low
same_low true low = refl
same_low false low = refl

pub lower_decides : (l : Layout) (scaled : List Float) (factors : List ℕ) (level low high : ℕ) → 8 * frame_size l < used_bits l scaled factors level high
    → last_of (exceeds l scaled factors level) low high ≡ low
unfolding last_of
lower_decides l scaled factors level low high h = rw (probe_over l scaled factors level high _ refl h) (same_low (eqb low high) low)

same_high : (low high : ℕ) → cond (eqb low high) low high ≡ high
same_high low high = grind (arith, nat_tests)

pub higher_decides : (l : Layout) (scaled : List Float) (factors : List ℕ) (level low high : ℕ) → used_bits l scaled factors level high ≤ 8 * frame_size l
    → last_of (exceeds l scaled factors level) low high ≡ high
unfolding last_of
higher_decides l scaled factors level low high h = rw (probe_fits l scaled factors level high _ refl h) (same_high low high)
