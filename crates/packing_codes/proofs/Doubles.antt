-- A code's number by the machine's sums. Assumes nothing.
use mathlib.Core.Path.{◌≡◌, refl, sym, ap, ◌∙◌, subst}
use mathlib.Core.Bool.{true, false}
use Prim.Native.Nat.{ℕ, zero, suc, ◌+◌, ◌≤◌}
use native.Mathlib.Omega.{arith}
use borrow.Author.Tests.{le-ltb, ltb-false}
use lib.IntN.{ℤ, pos, negsuc, ◌+ℤ◌, ◌-ℤ◌, nat_abs}
use lib.Signed.{lt_z}
use mir.Syntax.{w32}
use mir.Val.{SFits, to_z, of_z}
use mir.ValLaws.{to_z-of_z}
use Rattle.packing_codes.specs.Columns.{ordinal}

abbrev X : ℤ → ℤ
X z = to_z w32 (of_z w32 z)

pub ordinal-most : (z : ℤ) → nat_abs z ≤ 4095 → ordinal z ≤ 8190
ordinal-most (pos zero) h = omega arith
ordinal-most (pos (suc k)) h = omega arith
ordinal-most (negsuc k) h = omega arith

double_fits : (z : ℤ) → nat_abs z ≤ 4095 → SFits w32 (z +ℤ z)
double_fits (pos k) h = record { sfits = omega arith }
double_fits (negsuc k) h = record { sfits = omega arith }

pos-fits : (k : ℕ) → k ≤ 8190 → SFits w32 (pos k)
pos-fits k h = record { sfits = omega arith }

twice_less : (z : ℤ) → lt_z (pos 0) z ≡ true → (z +ℤ z) -ℤ pos 1 ≡ pos (ordinal z)
twice_less (pos zero) e = absurd (let h : ◌≡◌ {A = ℕ} 0 1 = cc in omega arith)
twice_less (pos (suc k)) e = rw (le-ltb (suc k + suc k) 1 (omega arith)) (ap pos (omega arith))
twice_less (negsuc k) e = absurd (let h : ◌≡◌ {A = ℕ} 0 1 = cc in omega arith)

twice_turned : (z : ℤ) → lt_z (pos 0) z ≡ false → pos 0 -ℤ (z +ℤ z) ≡ pos (ordinal z)
twice_turned (pos zero) e = refl
twice_turned (pos (suc k)) e = absurd (omega (arith, ltb-false 0 (suc k) e))
twice_turned (negsuc k) e = ap pos (omega arith)

module _ (z : ℤ) (f : SFits w32 z) (h : nat_abs z ≤ 4095) where
  back : X z ≡ z
  back = to_z-of_z w32 z f

  pub sum_fits : SFits w32 (X z +ℤ X z)
  sum_fits = subst (λ y. SFits w32 (y +ℤ y)) (sym back) (double_fits z h)

  sum_back : X (X z +ℤ X z) ≡ z +ℤ z
  sum_back = to_z-of_z w32 (X z +ℤ X z) sum_fits ∙ ap (λ y. y +ℤ y) back

  module _ (e : lt_z (pos 0) (X z) ≡ true) where
    less_is : X (X z +ℤ X z) -ℤ pos 1 ≡ pos (ordinal z)
    less_is = ap (λ y. y -ℤ pos 1) sum_back ∙ twice_less z (sym (ap (lt_z (pos 0)) back) ∙ e)

    pub less_fits : SFits w32 (X (X z +ℤ X z) -ℤ pos 1)
    less_fits = subst (SFits w32) (sym less_is) (pos-fits (ordinal z) (ordinal-most z h))

    pub less_back : X (X (X z +ℤ X z) -ℤ pos 1) ≡ pos (ordinal z)
    less_back = to_z-of_z w32 _ less_fits ∙ less_is

  module _ (e : lt_z (pos 0) (X z) ≡ false) where
    turned-is : pos 0 -ℤ X (X z +ℤ X z) ≡ pos (ordinal z)
    turned-is = ap (λ y. pos 0 -ℤ y) sum_back ∙ twice_turned z (sym (ap (lt_z (pos 0)) back) ∙ e)

    pub turned-fits : SFits w32 (pos 0 -ℤ X (X z +ℤ X z))
    turned-fits = subst (SFits w32) (sym turned-is) (pos-fits (ordinal z) (ordinal-most z h))

    pub turned-back : X (pos 0 -ℤ X (X z +ℤ X z)) ≡ pos (ordinal z)
    turned-back = to_z-of_z w32 _ turned-fits ∙ turned-is
