-- The size of a sum, a difference and a negation; the negation of an unsigned number that was cast. Assumes nothing.
use mathlib.Core.Path.{◌≡◌, sym, ap, ◌∙◌, subst}
use mathlib.Core.Bool.{Bool, true, false, cond}
use Prim.Native.Nat.{ℕ, zero, suc, ◌+◌, ◌-◌, ◌^◌, ◌≤◌, ◌<◌}
use native.Mathlib.Nat.{le_refl, lt_of_le_of_lt}
use native.Mathlib.Omega.{arith}
use lib.Dec.{ltb}
use lib.IntN.{ℤ, pos, negsuc, neg_ℤ, ◌+ℤ◌, ◌-ℤ◌, +ℤ_idl}
use lib.Signed.{mag}
use mir.Syntax.{Width}
use mir.Val.{SFits, to_z, hbits}
use mir.Facts.{to_z_pos}

either : (t : Bool) (x y : ℤ) (n : ℕ) → mag x ≤ n → mag y ≤ n → mag (cond t x y) ≤ n
either true x y n p q = p
either false x y n p q = q

pub mag_sub : (z : ℤ) (n : ℕ) → mag (z -ℤ pos n) ≤ mag z + n
mag_sub (pos m) zero = omega arith
mag_sub (pos m) (suc k) = either (ltb m (suc k)) (negsuc (suc k - suc m)) (pos (m - suc k)) (m + suc k) (omega arith) (omega arith)
mag_sub (negsuc m) zero = either (ltb 0 (suc m)) (negsuc (suc m - suc 0)) (pos (0 - suc m)) (m + 0) (omega arith) (omega arith)
mag_sub (negsuc m) (suc k) = omega arith

pub mag_add : (z : ℤ) (n : ℕ) → mag (z +ℤ pos n) ≤ mag z + n
mag_add (pos m) n = omega arith
mag_add (negsuc m) n = either (ltb n (suc m)) (negsuc (suc m - suc n)) (pos (n - suc m)) (m + n) (omega arith) (omega arith)

pub mag_neg : (n m : ℕ) → n ≤ m → mag (neg_ℤ (pos n)) ≤ m
mag_neg zero m h = h
mag_neg (suc n) m h = omega arith

pub negated : (w : Width) (n : ℕ) → n < 2 ^ hbits w → pos 0 -ℤ to_z w n ≡ neg_ℤ (pos n)
negated w n h = ap (λ (z : ℤ). pos 0 -ℤ z) (to_z_pos w {n = n} h) ∙ +ℤ_idl (neg_ℤ (pos n))

pub negated_fits : (w : Width) (n : ℕ) → n < 2 ^ hbits w → SFits w (pos 0 -ℤ to_z w n)
negated_fits w n h = record { sfits = subst (λ (z : ℤ). mag z < 2 ^ hbits w) (sym (negated w n h)) (lt_of_le_of_lt (mag_neg n n (le_refl n)) h) }
