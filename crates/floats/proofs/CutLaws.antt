-- Truncation by the bits. The whole part of a number is its significand, with the leading digit, shifted by the exponent's field. Assumes nothing.
use mathlib.Core.Path.{◌≡◌, refl, sym, ap, ◌∙◌, subst}
use Prim.Native.Nat.{ℕ, zero, suc, ◌+◌, ◌-◌, ◌*◌, ◌/◌, ◌%◌, ◌^◌, ◌≤◌, ◌<◌, min}
use native.Mathlib.Nat.{not-suc-le-zero, add_comm, mul_assoc, mul-div_cancel, mul-le-mul, mod-eq_of_lt, mod-mod, div-eq_of_lt, lt_of_lt_of_le, le_trans}
use native.Mathlib.Omega.{arith}
use mathlib.Core.Bool.{Bool, true, false, not, cond}
use mathlib.Core.Logic.{◌⊎◌, inl, inr}
use lib.Dec.{T, eqb, leb, ltb, eqb→eq, not_T, le→leb, nltb→le}
use lib.Arith.{lt→nleb}
use lib.Ieee.Bits.{is_true, is_false, cond_no, of_bits-to_bits, nan_bits_above}
use Rattle.floats.proofs.AbsLaws.{abs_no_nan}
use lib.Pow.{pow_pos, pow-add, pow_mono, shl_lt, shr_le}
use lib.IntN.{pos, neg_ℤ}
use lib.Ieee.{Float, nan, inf, fin, Format, binary32, prec, low, hid, ones, top, up, down, odd, of_fields, of_bits, to_bits, fits, is_nan, to_signed}
use lib.Ieee.Fits.{down_pos}
use lib.Ieee.Exact.{HasValue, odd_sign}
use lib.Ieee.Nearest.{div_same}
use Rattle.floats.specs.Single.{abs_f, cut_to}

-- ---- by the value
cut_value : (c : ℕ) (x : Float) (s : Bool) (a d : ℕ) → 0 < d → HasValue x s a d → cut_to c x ≡ min (a / d) c
unfolding cut_to
cut_value c nan s a d D h = absurd h
cut_value c (inf t) s a d D h = absurd h
cut_value c (fin t m e) s a d D h = ap (λ (w : ℕ). min w c) (div_same (m * up e) (down e) a d (down_pos e) D h.1)

cut_odd : (c p : ℕ) (s : Bool) (q k l : ℕ) → cut_to c (odd p s q k l) ≡ min (q * 2 ^ k / 2 ^ l) c
cut_odd c p s q k l = cut_value c (odd p s q k l) s (q * 2 ^ k) (2 ^ l) (pow_pos l) (odd_sign p s q k l)

-- ---- the sign
signed-cond : (h : ℕ) (a b : Bool) (s : Bool) (v : Float) → to_signed h v ≡ cond s (neg_ℤ (pos (cut_to (2 ^ h) v))) (pos (cut_to (2 ^ h - 1) v))
    → to_signed h (cond a (cond b (inf s) nan) v) ≡ cond s (neg_ℤ (pos (cut_to (2 ^ h) (cond a (cond b (inf s) nan) v))))
    (pos (cut_to (2 ^ h - 1) (cond a (cond b (inf s) nan) v)))
unfolding to_signed cut_to
signed-cond h true true s v e = refl
signed-cond h true false true v e = refl
signed-cond h true false false v e = refl
signed-cond h false b s v e = e

signed_odd : (h d : ℕ) (s : Bool) (q k l : ℕ) → to_signed h (odd d s q k l)
    ≡ cond s (neg_ℤ (pos (cut_to (2 ^ h) (odd d s q k l)))) (pos (cut_to (2 ^ h - 1) (odd d s q k l)))
unfolding to_signed cut_to odd
signed_odd h d s zero k l = refl
signed_odd h d s (suc q) k l = refl

signed-fields : (f : Format) (h : ℕ) (s : Bool) (x t : ℕ)
    → to_signed h (of_fields f s x t) ≡ cond s (neg_ℤ (pos (cut_to (2 ^ h) (of_fields f s x t)))) (pos (cut_to (2 ^ h - 1) (of_fields f s x t)))
unfolding of_fields
signed-fields f h s zero t = signed_odd h (prec f) s t 0 (low f)
signed-fields f h s (suc x) t = signed-cond h (eqb (suc x) (ones f)) (eqb t 0) s (odd (prec f) s (hid f + t) x (low f))
    (signed_odd h (prec f) s (hid f + t) x (low f))

pub signed-bits : (f : Format) (h b : ℕ)
    → to_signed h (of_bits f b) ≡ cond (leb (top f) b) (neg_ℤ (pos (cut_to (2 ^ h) (of_bits f b)))) (pos (cut_to (2 ^ h - 1) (of_bits f b)))
unfolding of_bits
signed-bits f h b = signed-fields f h (leb (top f) b) (b % top f / hid f) (b % hid f)

pub cut_abs : (c : ℕ) (x : Float) → cut_to c (abs_f x) ≡ cut_to c x
unfolding cut_to abs_f
cut_abs c nan = refl
cut_abs c (inf s) = refl
cut_abs c (fin s m e) = refl

pub cut_le : (c : ℕ) (x : Float) → cut_to c x ≤ c
unfolding cut_to
cut_le c nan = omega arith
cut_le c (inf s) = omega arith
cut_le c (fin s m e) = omega arith

-- the two ends of the range
pub cut_less : (c : ℕ) (x : Float) → cut_to (c - 1) x ≡ min (cut_to c x) (c - 1)
unfolding cut_to
cut_less c nan = omega arith
cut_less c (inf s) = omega arith
cut_less c (fin s m e) = omega arith

-- ---- the fields of a pattern with no sign
pub no_sign : (b : ℕ) → b < 2147483648 → of_bits binary32 b ≡ of_fields binary32 false (b / 8388608) (b % 8388608)
unfolding of_bits
no_sign b h =
    ap (λ (s : Bool). of_fields binary32 s (b % 2147483648 / 8388608) (b % 8388608)) (is_false (leb 2147483648 b) (lt→nleb 2147483648 b h))
    ∙ ap (λ (r : ℕ). of_fields binary32 false (r / 8388608) (b % 8388608)) (mod-eq_of_lt h)

-- an exponent's field of 0, and one that is neither 0 nor all ones
cut_zero : (c t : ℕ) → cut_to c (of_fields binary32 false 0 t) ≡ min (t * 2 ^ 0 / 2 ^ 149) c
unfolding of_fields
cut_zero c t = cut_odd c 24 false t 0 149

cut_mid : (c x t : ℕ) → suc x < 255 → cut_to c (of_fields binary32 false (suc x) t) ≡ min ((8388608 + t) * 2 ^ x / 2 ^ 149) c
unfolding of_fields
cut_mid c x t h =
    ap (cut_to c) (cond_no (eqb (suc x) 255) (cond (eqb t 0) (inf false) nan) (odd 24 false (8388608 + t) x 149)
    (not_T (eqb (suc x) 255) (λ u. below-not (suc x) 255 h (eqb→eq (suc x) 255 u))))
    ∙ cut_odd c 24 false (8388608 + t) x 149
  where
    below-not : (a b : ℕ) → a < b → a ≡ b → ⊥
    below-not a b h e = omega arith

cut_top : (c t : ℕ) → t ≡ 0 → cut_to c (of_fields binary32 false 255 t) ≡ c
unfolding of_fields cut_to
cut_top c zero e = refl
cut_top c (suc t) e = absurd (no e)
  where
    no : suc t ≡ 0 → ⊥
    no e = omega arith

-- ---- a number q of at most 24 digits, times 2 ^ x, over 2 ^ l
none : (q x l : ℕ) → q < 2 ^ 24 → 24 + x ≤ l → q * 2 ^ x / 2 ^ l ≡ 0
none q x l h k = div-eq_of_lt (lt_of_lt_of_le (shl_lt 24 x h) (pow_mono k))

right : (q x l : ℕ) → x ≤ l → q * 2 ^ x / 2 ^ l ≡ q / 2 ^ (l - x)
right q x l h = div_same (q * 2 ^ x) (2 ^ l) q (2 ^ (l - x)) (pow_pos l) (pow_pos (l - x))
    (mul_assoc q (2 ^ x) (2 ^ (l - x)) ∙ ap (λ (z : ℕ). q * z) (sym (pow-add 2 x (l - x)) ∙ ap (λ (z : ℕ). 2 ^ z) (join x l h)))
  where
    join : (x l : ℕ) → x ≤ l → x + (l - x) ≡ l
    join x l h = omega arith

left : (q x l : ℕ) → l ≤ x → q * 2 ^ x / 2 ^ l ≡ q * 2 ^ (x - l)
left q x l h =
    ap (λ (z : ℕ). q * z / 2 ^ l) (ap (λ (z : ℕ). 2 ^ z) (sym (join x l h)) ∙ pow-add 2 (x - l) l)
    ∙ ap (λ (z : ℕ). z / 2 ^ l) (sym (mul_assoc q (2 ^ (x - l)) (2 ^ l)))
    ∙ mul-div_cancel (q * 2 ^ (x - l)) (pow_pos l)
  where
    join : (x l : ℕ) → l ≤ x → x - l + l ≡ x
    join x l h = omega arith

min-left : (w c : ℕ) → w ≤ c → min w c ≡ w
min-left w c h = omega arith

min_right : (w c : ℕ) → c ≤ w → min w c ≡ c
min_right w c h = omega arith

-- ---- the four cases of `cut`, by the exponent's field e and the digits t
pub cut_below_one : (e t : ℕ) → t < 8388608 → e < 127 → cut_to (2 ^ 31) (of_fields binary32 false e t) ≡ 0
cut_below_one zero t d h = cut_zero (2 ^ 31) t ∙ ap (λ (w : ℕ). min w (2 ^ 31)) (none t 0 149 (omega arith) (omega arith)) ∙ min-left 0 (2 ^ 31) (omega arith)
cut_below_one (suc x) t d h =
    cut_mid (2 ^ 31) x t (omega arith) ∙ ap (λ (w : ℕ). min w (2 ^ 31)) (none (8388608 + t) x 149 (omega arith) (omega arith))
    ∙ min-left 0 (2 ^ 31) (omega arith)

pub cut_right : (e t : ℕ) → t < 8388608 → 127 ≤ e → e ≤ 150 → (t + 8388608) / 2 ^ (150 - e) ≡ cut_to (2 ^ 31) (of_fields binary32 false e t)
cut_right zero t d h k = absurd (not-suc-le-zero h)
cut_right (suc x) t d h k =
    let q = 8388608 + t in
    sym
    (cut_mid (2 ^ 31) x t (omega arith)
    ∙ ap (λ (w : ℕ). min w (2 ^ 31)) (right q x 149 (omega arith))
    ∙ min-left (q / 2 ^ (149 - x)) (2 ^ 31) (le_trans (shr_le q (149 - x)) (omega arith))
    ∙ ap (λ (z : ℕ). q / 2 ^ z) (less x)
    ∙ ap (λ (z : ℕ). z / 2 ^ (150 - suc x)) (add_comm 8388608 t))
  where
    less : (x : ℕ) → 149 - x ≡ 150 - suc x
    less x = omega arith

pub cut_left : (e t : ℕ) → t < 8388608 → 150 < e → e < 158 → (t + 8388608) * 2 ^ (e - 150) % 2 ^ 32 ≡ cut_to (2 ^ 31) (of_fields binary32 false e t)
cut_left zero t d h k = absurd (not-suc-le-zero h)
cut_left (suc x) t d h k =
    let q = 8388608 + t in
    let small : q * 2 ^ (x - 149) < 2 ^ 31 = lt_of_lt_of_le (shl_lt 24 (x - 149) (omega arith)) (pow_mono {j = 31} (omega arith)) in
    sym
    (cut_mid (2 ^ 31) x t (omega arith)
    ∙ ap (λ (w : ℕ). min w (2 ^ 31)) (left q x 149 (omega arith))
    ∙ min-left (q * 2 ^ (x - 149)) (2 ^ 31) (omega arith)
    ∙ sym (mod-eq_of_lt {n = q * 2 ^ (x - 149)} {m = 2 ^ 32} (lt_of_lt_of_le small (omega arith)))
    ∙ ap (λ (z : ℕ). q * 2 ^ z % 2 ^ 32) (less x)
    ∙ ap (λ (z : ℕ). z * 2 ^ (suc x - 150) % 2 ^ 32) (add_comm 8388608 t))
  where
    less : (x : ℕ) → x - 149 ≡ suc x - 150
    less x = omega arith

-- from 2 ^ 31 up, the infinity included
pub cut_beyond : (e t : ℕ) → 158 ≤ e → (e < 255) ⊎ ((e ≡ 255) × (t ≡ 0)) → 2 ^ 31 ≡ cut_to (2 ^ 31) (of_fields binary32 false e t)
cut_beyond zero t h k = absurd (not-suc-le-zero h)
cut_beyond (suc x) t h (inl k) =
    let q = 8388608 + t in
    sym
    (cut_mid (2 ^ 31) x t k
    ∙ ap (λ (w : ℕ). min w (2 ^ 31)) (left q x 149 (omega arith))
    ∙ min_right (q * 2 ^ (x - 149)) (2 ^ 31) (mul-le-mul {n₁ = 8388608} {m₁ = 2 ^ 8} (omega arith) (pow_mono {i = 8} (omega arith))))
cut_beyond (suc x) t h (inr k) = sym (ap (λ (e : ℕ). cut_to (2 ^ 31) (of_fields binary32 false e t)) k.0 ∙ cut_top (2 ^ 31) t k.1)

-- ---- `truncate`
-- by the sign's bit
pub signed_yes : (x : Float) → T (fits binary32 x) → 2147483648 ≤ to_bits binary32 x → to_signed 31 x ≡ neg_ℤ (pos (cut_to (2 ^ 31) x))
signed_yes x t h =
    let b = to_bits binary32 x in
    subst (λ (y : Float). to_signed 31 y ≡ neg_ℤ (pos (cut_to (2 ^ 31) y))) (of_bits-to_bits binary32 x t)
    (signed-bits binary32 31 b ∙ ap (λ (s : Bool). cond s (neg_ℤ (pos (cut_to (2 ^ 31) (of_bits binary32 b)))) (pos (cut_to (2 ^ 31 - 1) (of_bits binary32 b))))
    (is_true (leb 2147483648 b) (le→leb 2147483648 b h)))

pub signed_no : (x : Float) → T (fits binary32 x) → to_bits binary32 x < 2147483648 → to_signed 31 x ≡ pos (min (cut_to (2 ^ 31) x) 2147483647)
signed_no x t h =
    let b = to_bits binary32 x in
    subst (λ (y : Float). to_signed 31 y ≡ pos (min (cut_to (2 ^ 31) y) 2147483647)) (of_bits-to_bits binary32 x t)
    (signed-bits binary32 31 b
    ∙ ap (λ (s : Bool). cond s (neg_ℤ (pos (cut_to (2 ^ 31) (of_bits binary32 b)))) (pos (cut_to (2 ^ 31 - 1) (of_bits binary32 b))))
    (is_false (leb 2147483648 b) (lt→nleb 2147483648 b h))
    ∙ ap pos (cut_less (2 ^ 31) (of_bits binary32 b)))

pub signed-nan : (x : Float) → is_nan x ≡ true → pos 0 ≡ to_signed 31 x
unfolding to_signed is_nan
signed-nan nan h = refl
signed-nan (inf s) h = absurd (subst T (sym h) tt)
signed-nan (fin s m e) h = absurd (subst T (sym h) tt)

-- the pattern without its sign is at most the infinity's
pub bits-top : (x : Float) → T (fits binary32 x) → T (not (is_nan x)) → to_bits binary32 x % 2147483648 ≤ 2139095040
bits-top x t n = nltb→le 2139095040 (to_bits binary32 x % 2147483648)
    (subst (λ (b : Bool). T (not b)) (nan_bits_above binary32 (to_bits binary32 x % 2147483648)
    ∙ ap (λ (r : ℕ). ltb 2139095040 r) (mod-mod (to_bits binary32 x) 2147483648)) (abs_no_nan binary32 x t n))
