-- Two floats next to each other: what does not reach the larger is at most the smaller, on either side of zero. Assumes nothing.
use mathlib.Core.Path.{◌≡◌, refl, sym, ap, subst}
use Prim.Native.Nat.{ℕ, zero, suc, ◌+◌, ◌*◌, ◌≤◌, ◌<◌, zero-le}
use native.Mathlib.Nat.{zero-mul, le_of_eq, le_trans, le_of_suc-le-suc, lt_of_not-le}
use native.Mathlib.Omega.{arith}
use mathlib.Core.Bool.{Bool, true, false, not, ◌&&◌, ◌||◌}
use borrow.Author.Tests.{le-ltb}
use lib.Dec.{T, eqb, lt→ltb}
use lib.IntN.{ℤ}
use lib.Ieee.{Float, nan, inf, fin, binary32, up, down, neg, le, to_bits, fits}
use lib.Ieee.Scale.{finite}
use lib.Ieee.Positive.{positive, above}
use Rattle.factors.proofs.OrderLaws.{le-of_bits, not-above}
use Rattle.within.proofs.MonoLaws.{Ord, le→ord}
use Rattle.within.proofs.HeldLaws.{up_to, down_to, apart}

-- ---- the order of two finite numbers, from their fractions, and with both signs turned
both_zero : (a b : ℕ) → a ≡ 0 → b ≡ 0 → T (eqb a b && eqb a 0)
both_zero a b p q = rw (p, q) tt

pub ord→le : (t u : Bool) (m : ℕ) (e : ℤ) (n : ℕ) (d : ℤ) → Ord t (m * up e) (down e) u (n * up d) (down d) → T (le (fin t m e) (fin u n d))
unfolding le
ord→le false false m e n d h = up_to (m * up e * down d) (n * up d * down e) (le-ltb (n * up d * down e) (m * up e * down d) h)
ord→le true true m e n d h = down_to (m * up e * down d) (n * up d * down e) (le-ltb (m * up e * down d) (n * up d * down e) h)
ord→le true false m e n d h = apart (m * up e * down d) (n * up d * down e)
ord→le false true m e n d h = both_zero (m * up e * down d) (n * up d * down e) (none (m * up e) (down d) h.0) (none (n * up d) (down e) h.1)
  where
    none : (a k : ℕ) → a ≡ 0 → a * k ≡ 0
    none a k e = rw e (zero-mul k)

turned : (t u : Bool) (A E B F : ℕ) → Ord t A E u B F → Ord (not u) B F (not t) A E
turned false false A E B F h = h
turned true true A E B F h = h
turned true false A E B F h = tt
turned false true A E B F h = (h.1, h.0)

le-turned : (t u : Bool) (m : ℕ) (e : ℤ) (n : ℕ) (d : ℤ) → T (le (fin t m e) (fin u n d)) → T (le (fin (not u) n d) (fin (not t) m e))
le-turned t u m e n d h = ord→le (not u) (not t) n d m e (turned t u (m * up e) (down e) (n * up d) (down d) (le→ord t u m e n d h))

-- ---- next to each other, above zero
pub record Next (x y : Float) : Type 0 where
  pub x_fits : T (fits binary32 x)
  pub x_positive : T (positive x)
  pub x_low : to_bits binary32 x < 2139095040
  pub y-fits : T (fits binary32 y)
  pub y_positive : T (positive y)
  pub y-low : to_bits binary32 y < 2139095040
  pub one : to_bits binary32 y ≡ to_bits binary32 x + 1

above_zero : (e : ℤ) (y : Float) → T (positive y) → T (le (fin false 0 e) y)
above_zero e nan p = absurd p
above_zero e (inf s) p = absurd p
above_zero e (fin true n d) p = absurd p
above_zero e (fin false n d) p = ord→le false false 0 e n d (rw (zero-mul (up e), zero-mul (down d)) zero-le)

above_negative : (m : ℕ) (e : ℤ) (y : Float) → T (positive y) → T (le (fin true m e) y)
above_negative m e nan p = absurd p
above_negative m e (inf s) p = absurd p
above_negative m e (fin true n d) p = absurd p
above_negative m e (fin false n d) p = ord→le true false m e n d tt

is-above : (v : Float) → T (positive v) → T (above v)
is-above nan p = absurd p
is-above (inf s) p = absurd p
is-above (fin true m e) p = absurd p
is-above (fin false m e) p = p

module _ (x y : Float) (k : Next x y) where
  between_none : (v : Float) → T (fits binary32 v) → T (positive v) → (T (le y v) → ⊥) → T (le v x)
  between_none v f p n =
      let h : to_bits binary32 v ≤ to_bits binary32 x =
      not-above (λ l. n (le-of_bits y v k.y-fits k.y_positive k.y-low f (is-above v p)
      (subst (λ (b : ℕ). b ≤ to_bits binary32 v) (sym k.one) (next _ _ l)))) in
      le-of_bits v x f p (below _ _ _ h k.x_low) k.x_fits (is-above x k.x_positive) h
    where
      next : (a b : ℕ) → a < b → a + 1 ≤ b
      next a b h = omega arith

      below : (a b c : ℕ) → a ≤ b → b < c → a < c
      below a b c h l = omega arith

  pub not_upper_lem : (v : Float) → T (fits binary32 v) → T (finite v) → (T (le y v) → ⊥) → T (le v x)
  not_upper_lem nan f t n = absurd t
  not_upper_lem (inf s) f t n = absurd t
  not_upper_lem (fin true m e) f t n = above_negative m e x k.x_positive
  not_upper_lem (fin false zero e) f t n = above_zero e x k.x_positive
  not_upper_lem (fin false (suc m) e) f t n = between_none (fin false (suc m) e) f (lt→ltb 0 (suc m) (omega arith)) n

-- ---- and below zero
other_sign : (t : Bool) (m : ℕ) (e : ℤ) → T (fits binary32 (fin t m e)) → T (fits binary32 (fin (not t) m e))
unfolding fits
other_sign t zero e f = f
other_sign t (suc m) e f = f

pub not_upper-below : (x y : Float) → Next (neg y) (neg x) → (v : Float) → T (fits binary32 v) → T (finite v) → (T (le y v) → ⊥) → T (le v x)
unfolding neg
not_upper-below x y k v f t n = go x y v k f t n
  where
    turned-back : (b : Bool) → not (not b) ≡ b
    turned-back true = refl
    turned-back false = refl

    step : (a : ℕ) (b : ℤ) (c : ℕ) (d : ℤ) (s : Bool) (m : ℕ) (e : ℤ) → Next (fin false c d) (fin false a b) → T (fits binary32 (fin s m e))
        → (T (le (fin true c d) (fin s m e)) → ⊥) → T (le (fin s m e) (fin true a b))
    step a b c d s m e k f n = by (le (fin false a b) (fin (not s) m e)) refl
      where
        by : (q : Bool) → le (fin false a b) (fin (not s) m e) ≡ q → T (le (fin s m e) (fin true a b))
        by true q = subst (λ (u : Bool). T (le (fin u m e) (fin true a b))) (turned-back s) (le-turned false (not s) a b m e (subst T (sym q) tt))
        by false q =
            absurd (n (subst (λ (u : Bool). T (le (fin true c d) (fin u m e))) (turned-back s)
            (le-turned (not s) false m e c d (not_upper_lem (fin false c d) (fin false a b) k (fin (not s) m e) (other_sign s m e f) tt (λ h. subst T q h)))))

    go : (x y v : Float) → Next (neg y) (neg x) → T (fits binary32 v) → T (finite v) → (T (le y v) → ⊥) → T (le v x)
    go nan y v k f t n = absurd k.y_positive
    go (inf s) y v k f t n = absurd k.y_positive
    go (fin false a b) y v k f t n = absurd k.y_positive
    go (fin true a b) nan v k f t n = absurd k.x_positive
    go (fin true a b) (inf s) v k f t n = absurd k.x_positive
    go (fin true a b) (fin false c d) v k f t n = absurd k.x_positive
    go (fin true a b) (fin true c d) nan k f t n = absurd t
    go (fin true a b) (fin true c d) (inf s) k f t n = absurd t
    go (fin true a b) (fin true c d) (fin s m e) k f t n = step a b c d s m e k f n
