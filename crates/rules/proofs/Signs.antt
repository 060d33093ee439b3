-- An i32 in 64 bits, and its magnitude there. Assumes nothing.
use mathlib.Core.Path.{◌≡◌, refl, ◌∙◌, ap}
use mathlib.Core.Bool.{true, false, true≢false}
use Prim.Native.Nat.{suc, ◌^◌, ◌≤◌}
use native.Mathlib.Nat.{zero-add}
use native.Mathlib.Omega.{arith}
use borrow.Author.Tests.{ltb-true}
use lib.IntN.{ℤ, pos, negsuc, ◌-ℤ◌, nat_abs}
use lib.Signed.{lt_z, nat_abs-le}
use mir.Syntax.{w32, w64}
use mir.Val.{SFits, to_z, of_z}
use mir.ValLaws.{to_z-of_z}

pub wider : (z : ℤ) → SFits w32 z → SFits w64 z
wider z f = record { sfits = omega (arith, f.sfits) }

pub widened : (z : ℤ) → SFits w32 z → to_z w64 (of_z w64 (to_z w32 (of_z w32 z))) ≡ z
widened z f = ap (λ y. to_z w64 (of_z w64 y)) (to_z-of_z w32 z f) ∙ to_z-of_z w64 z (wider z f)

pub magnitude_le : (z : ℤ) → SFits w32 z → nat_abs z ≤ 2 ^ 31
magnitude_le z f = nat_abs-le z f.sfits

pub magnitude_below : (z : ℤ) → lt_z z (pos 0) ≡ true → pos 0 -ℤ z ≡ pos (nat_abs z)
magnitude_below (pos n) e = absurd (omega (arith, ltb-true n 0 e))
magnitude_below (negsuc n) e = ap pos (zero-add (suc n))

pub magnitude_above : (z : ℤ) → lt_z z (pos 0) ≡ false → z ≡ pos (nat_abs z)
magnitude_above (pos n) e = refl
magnitude_above (negsuc n) e = absurd (true≢false e)
