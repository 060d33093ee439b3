-- The sign of a rounded fraction, and a magnitude by a comparison with 0.0. Assumes nothing.
use mathlib.Core.Path.{◌≡◌, refl, sym, ap, ◌∙◌, subst}
use Prim.Native.Nat.{ℕ, zero, suc, ◌+◌, ◌*◌, ◌^◌, ◌<◌}
use native.Mathlib.Nat.{zero-mul, one-mul, mul-one, zero-add, mul-pos, zero-lt-suc}
use native.Mathlib.Omega.{arith}
use mathlib.Core.Bool.{Bool, true, false, cond}
use lib.Dec.{T, ltb, lt→ltb}
use lib.Ieee.{Float, nan, inf, fin, Format, binary32, prec, emax, low, up, down, odd, units, round, neg, sum, add, sub, lt, fits}
use lib.Ieee.Fits.{round_is, neg-fits, up_pos}
use Rattle.floats.specs.Single.{abs_f, zero_f}
use Rattle.floats.proofs.SumValues.{own_round}

-- ---- a rounded fraction with the sign clear is no NaN, and its sign is clear
abbrev pub Upward : Float → Type 0
Upward nan = ⊥
Upward (inf true) = ⊥
Upward (inf false) = Unit
Upward (fin true m e) = ⊥
Upward (fin false m e) = Unit

upward_odd : (d q k l : ℕ) → Upward (odd d false q k l)
unfolding odd
upward_odd d zero k l = tt
upward_odd d (suc q) k l = tt

upward_units : (f : Format) (q k : ℕ) → Upward (units f false q k)
unfolding units
upward_units f q k = go (ltb (q * 2 ^ k) (2 ^ (low f + suc (emax f))))
  where
    go : (b : Bool) → Upward (cond b (odd (suc (prec f)) false q k (low f)) (inf false))
    go true = upward_odd (suc (prec f)) q k (low f)
    go false = tt

pub upward_round : (f : Format) (a b : ℕ) → Upward (round f false a b)
upward_round f a b = subst Upward (sym (round_is f false a b)) (upward_units f _ _)

-- ---- rounding with the sign set
neg-odd : (d q k l : ℕ) → odd d true q k l ≡ neg (odd d false q k l)
unfolding odd neg
neg-odd d zero k l = refl
neg-odd d (suc q) k l = refl

neg_units : (f : Format) (q k : ℕ) → units f true q k ≡ neg (units f false q k)
unfolding units neg
neg_units f q k = go (ltb (q * 2 ^ k) (2 ^ (low f + suc (emax f))))
  where
    go : (b : Bool) → cond b (odd (suc (prec f)) true q k (low f)) (inf true) ≡ neg (cond b (odd (suc (prec f)) false q k (low f)) (inf false))
    go true = neg-odd (suc (prec f)) q k (low f)
    go false = refl

pub neg-round : (f : Format) (a b : ℕ) → round f true a b ≡ neg (round f false a b)
neg-round f a b = round_is f true a b ∙ neg_units f _ _ ∙ ap neg (sym (round_is f false a b))

-- ---- |x| by a comparison with 0.0
false_true : false ≡ true → ⊥
false_true h = let z : ◌≡◌ {A = ℕ} 0 1 = cc in omega arith

pub abs-above-zero : (x : Float) → lt zero_f x ≡ true → x ≡ abs_f x
unfolding lt abs_f
abs-above-zero nan h = absurd (false_true h)
abs-above-zero (inf true) h = absurd (false_true h)
abs-above-zero (inf false) h = refl
abs-above-zero (fin true m e) h = absurd (false_true h)
abs-above-zero (fin false m e) h = refl

pub up_to_zero : (x : Float) → T (fits binary32 x) → lt zero_f x ≡ false → sub binary32 zero_f x ≡ abs_f x
unfolding lt abs_f sub add neg sum
up_to_zero nan f h = refl
up_to_zero (inf true) f h = refl
up_to_zero (inf false) f h = absurd (false_true (sym h))
up_to_zero (fin true m e) f h =
    rw (zero-mul (down e), mul-one (m * up e), one-mul (down e), zero-add (m * up e)) (own_round false m e (neg-fits binary32 (fin true m e) f))
up_to_zero (fin false zero e) f h = rw (zero-mul (down e), zero-mul (up e), one-mul (down e)) (rw (zero-mul (up e)) at (own_round false 0 e f))
up_to_zero (fin false (suc m) e) f h = absurd (subst T h (lt→ltb (0 * down e) (suc m * up e * 1) there))
  where
    there : 0 * down e < suc m * up e * 1
    there = rw (zero-mul (down e), mul-one (suc m * up e)) (mul-pos (zero-lt-suc m) (up_pos e))
