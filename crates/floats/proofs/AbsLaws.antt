-- |x| by the bits: taking the sign's bit off a pattern is `abs_f` of what the pattern is read as. Assumes nothing.
use mathlib.Core.Path.{◌≡◌, refl, sym, ap, ◌∙◌, subst}
use Prim.Native.Nat.{ℕ, zero, suc, ◌+◌, ◌-◌, ◌/◌, ◌%◌, ◌<◌}
use native.Mathlib.Nat.{mod-lt, mod-mod_of_dvd, mod-eq_of_lt, dvd-mul_right, mul-pos, zero-lt-suc}
use mathlib.Core.Bool.{Bool, true, false, not, cond}
use lib.Dec.{T, eqb, leb}
use lib.Arith.{lt→nleb}
use lib.Pow.{pow_pos}
use lib.Ieee.{Float, nan, inf, fin, Format, prec, low, hid, ones, top, odd, of_fields, of_bits, to_bits, fits, is_nan, nan_bits, ne}
use lib.Ieee.Bits.{is_false, of_bits-to_bits, nan_bits_is}
use Rattle.floats.specs.Single.{abs_f}

abs-odd : (d : ℕ) (s : Bool) (q k l : ℕ) → abs_f (odd d s q k l) ≡ odd d false q k l
unfolding abs_f odd
abs-odd d s zero k l = refl
abs-odd d s (suc q) k l = refl

abs-cond : (a b : Bool) (s : Bool) (v w : Float) → abs_f v ≡ w → abs_f (cond a (cond b (inf s) nan) v) ≡ cond a (cond b (inf false) nan) w
unfolding abs_f
abs-cond true true s v w e = refl
abs-cond true false s v w e = refl
abs-cond false b s v w e = e

abs-fields : (f : Format) (s : Bool) (x t : ℕ) → abs_f (of_fields f s x t) ≡ of_fields f false x t
unfolding of_fields
abs-fields f s zero t = abs-odd (prec f) s t 0 (low f)
abs-fields f s (suc x) t = abs-cond (eqb (suc x) (ones f)) (eqb t 0) s (odd (prec f) s (hid f + t) x (low f)) (odd (prec f) false (hid f + t) x (low f))
    (abs-odd (prec f) s (hid f + t) x (low f))

top_pos : (f : Format) → 0 < top f
top_pos f = mul-pos (pow_pos (prec f - 1)) (zero-lt-suc (ones f))

-- the pattern without its sign
pub abs-bits : (f : Format) (b : ℕ) → of_bits f (b % top f) ≡ abs_f (of_bits f b)
unfolding of_bits
abs-bits f b =
    let r = b % top f in
    let small : r < top f = mod-lt b (top_pos f) in
    ap (λ (s : Bool). of_fields f s (r % top f / hid f) (r % hid f)) (is_false (leb (top f) r) (lt→nleb (top f) r small))
    ∙ ap (λ (y : ℕ). of_fields f false (y / hid f) (r % hid f)) (mod-eq_of_lt small)
    ∙ ap (λ (y : ℕ). of_fields f false (r / hid f) y) (mod-mod_of_dvd (hid f) b (dvd-mul_right (hid f) (suc (ones f))))
    ∙ sym (abs-fields f (leb (top f) b) (r / hid f) (b % hid f))

pub abs-of_bits : (f : Format) (x : Float) → T (fits f x) → T (not (is_nan x)) → of_bits f (to_bits f x % top f) ≡ abs_f x
abs-of_bits f x h n = abs-bits f (to_bits f x) ∙ ap abs_f (of_bits-to_bits f x h)

abs-nan : (x : Float) → is_nan (abs_f x) ≡ is_nan x
unfolding abs_f is_nan
abs-nan nan = refl
abs-nan (inf s) = refl
abs-nan (fin s m e) = refl

-- so the pattern without its sign is no NaN's
pub abs_no_nan : (f : Format) (x : Float) → T (fits f x) → T (not (is_nan x)) → T (not (nan_bits f (to_bits f x % top f)))
abs_no_nan f x h n =
    subst (λ (b : Bool). T (not b)) (sym (nan_bits_is f (to_bits f x % top f) ∙ ap is_nan (abs-of_bits f x h n) ∙ abs-nan x)) n

-- ---- `x != x`
pub itself : (x : Float) → ne x x ≡ false → T (not (is_nan x))
unfolding ne is_nan
itself nan h = subst T h tt
itself (inf s) h = tt
itself (fin s m e) h = tt

-- ---- `x.is_nan()`
pub nan_left : (x : Float) → is_nan x ≡ true → x ≡ abs_f x
unfolding abs_f is_nan
nan_left nan h = refl
nan_left (inf s) h = absurd (subst T (sym h) tt)
nan_left (fin s m e) h = absurd (subst T (sym h) tt)

pub no_nan : (x : Float) → is_nan x ≡ false → T (not (is_nan x))
no_nan x h = subst (λ (b : Bool). T (not b)) (sym h) tt
