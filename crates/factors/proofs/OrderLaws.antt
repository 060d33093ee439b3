-- The order of single floats above zero is the order of their bits. Assumes nothing.
use mathlib.Core.Path.{◌≡◌, refl, sym, ap, ◌∙◌, subst}
use mathlib.Core.Logic.{◌⊎◌, inl, inr}
use Prim.Native.Nat.{ℕ, zero, suc, ◌+◌, ◌*◌, ◌/◌, ◌%◌, ◌^◌, ◌≤◌, ◌<◌}
use native.Mathlib.Nat.{le_trans, le_of_eq, lt_of_lt_of_le, lt_of_le_of_lt, not-le_of_lt, eq-or-lt_of_le, lt_of_not-le, le_of_suc-le-suc}
use native.Mathlib.Nat.{mul_right_comm, mul-le-mul, mul-le-mul_right, mul-lt-mul_of_pos_right, lt_of_mul-lt-mul_right, pow-succ'}
use native.Mathlib.Omega.{arith}
use mathlib.Core.Bool.{true, false, not, cond}
use lib.Dec.{T, eqb, lt→ltb, eqb→eq, not_T}
use lib.Pow.{pow_pos, pow_mono}
use lib.Ieee.{Float, nan, inf, fin, binary32, up, down, lt, le, odd, of_fields, of_bits, to_bits, fits, is_nan}
use lib.Ieee.Bits.{cond_no, of_bits-to_bits, to_bits-of_bits}
use lib.Ieee.Fits.{down_pos}
use lib.Ieee.Exact.{HasValue, odd_sign}
use lib.Ieee.Order.{le_of_values}
use lib.Ieee.Positive.{num, den, positive, le→cross, values_of_le, above_of_le, above}
use Rattle.floats.specs.Single.{abs_f}
use Rattle.floats.proofs.AbsLaws.{abs-of_bits}
use Rattle.floats.proofs.CutLaws.{no_sign, bits-top}

-- ---- a pattern's size in units of 2 ^ -149, by its two fields
abbrev weight : ℕ → ℕ → ℕ
weight zero t = t * 2 ^ 0
weight (suc x) t = (8388608 + t) * 2 ^ x

below-not : (a b : ℕ) → a < b → a ≡ b → ⊥
below-not a b h e = omega arith

fields_value : (x t : ℕ) → x < 255 → HasValue (of_fields binary32 false x t) false (weight x t) (2 ^ 149)
unfolding of_fields
fields_value zero t h = odd_sign 24 false t 0 149
fields_value (suc x) t h =
    subst (λ (v : Float). HasValue v false ((8388608 + t) * 2 ^ x) (2 ^ 149))
    (sym
    (cond_no (eqb (suc x) 255) (cond (eqb t 0) (inf false) nan) (odd 24 false (8388608 + t) x 149)
    (not_T (eqb (suc x) 255) (λ u. below-not (suc x) 255 h (eqb→eq (suc x) 255 u)))))
    (odd_sign 24 false (8388608 + t) x 149)

abbrev size_of : ℕ → ℕ
size_of b = weight (b / 8388608) (b % 8388608)

bits-value : (b : ℕ) → b < 2139095040 → HasValue (of_bits binary32 b) false (size_of b) (2 ^ 149)
bits-value b h =
    subst (λ (v : Float). HasValue v false (size_of b) (2 ^ 149)) (sym (no_sign b (omega arith)))
    (fields_value (b / 8388608) (b % 8388608) (omega arith))

-- ---- it grows with the pattern
with_lead : (t : ℕ) → t < 8388608 → 8388608 + t < 16777216
with_lead t h = omega arith

weight-next : (x t : ℕ) → t < 8388608 → weight x t < weight (suc x) 0
weight-next zero t h = omega arith
weight-next (suc x) t h =
    let p : 0 < 2 ^ x = pow_pos x in
    let k : (8388608 + t) * 2 ^ x < 16777216 * 2 ^ x = mul-lt-mul_of_pos_right (with_lead t h) p in
    let e = pow-succ' 2 x in
    subst (λ (n : ℕ). (8388608 + t) * 2 ^ x < 8388608 * n) (sym e) (omega (arith, k))

weight-from : (x y t : ℕ) → x ≤ y → weight (suc x) 0 ≤ weight (suc y) t
weight-from x y t h = mul-le-mul {n₁ = 8388608} {m₁ = 2 ^ x} (omega arith) (pow_mono h)

weight_field : (x t u : ℕ) → t < u → weight x t < weight x u
weight_field zero t u h = omega arith
weight_field (suc x) t u h = mul-lt-mul_of_pos_right (omega arith) (pow_pos x)

weight_far : (x y t u : ℕ) → t < 8388608 → x < y → weight x t < weight y u
weight_far x zero t u h k = absurd (none x k)
  where
    none : (x : ℕ) → x < 0 → ⊥
    none x k = omega arith
weight_far x (suc y) t u h k = lt_of_lt_of_le (weight-next x t h) (weight-from x y u (omega arith))

grows : (a b : ℕ) → a < b → size_of a < size_of b
grows a b h = go (eq-or-lt_of_le (fields_le a b h))
  where
    fields_le : (a b : ℕ) → a < b → a / 8388608 ≤ b / 8388608
    fields_le a b h = omega arith

    digits : (a b : ℕ) → a < b → a / 8388608 ≡ b / 8388608 → a % 8388608 < b % 8388608
    digits a b h e = omega arith

    in_field : (a : ℕ) → a % 8388608 < 8388608
    in_field a = omega arith

    go : (a / 8388608 ≡ b / 8388608) ⊎ (a / 8388608 < b / 8388608) → size_of a < size_of b
    go (inl e) = subst (λ (x : ℕ). size_of a < weight x (b % 8388608)) e (weight_field (a / 8388608) (a % 8388608) (b % 8388608) (digits a b h e))
    go (inr k) = weight_far (a / 8388608) (b / 8388608) (a % 8388608) (b % 8388608) (in_field a) k

no_less : (a b : ℕ) → a ≤ b → size_of a ≤ size_of b
no_less a b h = go (eq-or-lt_of_le h)
  where
    weaken : {x y : ℕ} → x < y → x ≤ y
    weaken {x} {y} h = omega arith

    go : (a ≡ b) ⊎ (a < b) → size_of a ≤ size_of b
    go (inl e) = le_of_eq (ap size_of e)
    go (inr k) = weaken (grows a b k)

-- ---- the order
above-value : (v : Float) (a c : ℕ) → T (above v) → HasValue v false a c → T (positive v)
above-value nan a c t h = absurd t
above-value (inf s) a c t h = absurd h
above-value (fin true m e) a c t h = absurd t
above-value (fin false m e) a c t h = t

bits-le : (a b : ℕ) → a ≤ b → b < 2139095040 → T (le (of_bits binary32 a) (of_bits binary32 b))
bits-le a b h k =
    le_of_values (of_bits binary32 a) (of_bits binary32 b) (size_of a) (2 ^ 149) (size_of b) (2 ^ 149) (pow_pos 149) (pow_pos 149)
    (bits-value a (omega arith))
    (bits-value b k)
    (mul-le-mul_right (2 ^ 149) (no_less a b h))

bits-lt : (a b : ℕ) → b < a → a < 2139095040 → T (positive (of_bits binary32 a)) → T (le (of_bits binary32 a) (of_bits binary32 b)) → ⊥
bits-lt a b h k p l =
    let bv = bits-value b (omega arith) in
    let q = above-value (of_bits binary32 b) (size_of b) (2 ^ 149) (above_of_le (of_bits binary32 a) (of_bits binary32 b) p l) bv in
    not-le_of_lt (mul-lt-mul_of_pos_right (grows b a h) (pow_pos 149))
    (values_of_le (of_bits binary32 a) (of_bits binary32 b) (size_of a) (2 ^ 149) (size_of b) (2 ^ 149) p q (bits-value a k) bv l)

-- ---- a value above zero: its pattern has no sign
abs-above : (v : Float) → T (above v) → abs_f v ≡ v
unfolding abs_f
abs-above nan t = absurd t
abs-above (inf true) t = absurd t
abs-above (inf false) t = refl
abs-above (fin true m e) t = absurd t
abs-above (fin false m e) t = refl

pub above-number : (v : Float) → T (above v) → T (not (is_nan v))
unfolding is_nan
above-number nan t = t
above-number (inf s) t = tt
above-number (fin s m e) t = tt

mod_in : (n : ℕ) → n % 2147483648 < 4294967296
mod_in n = omega arith

clear-bits : (v : Float) → T (fits binary32 v) → T (above v) → to_bits binary32 v ≡ to_bits binary32 v % 2147483648
clear-bits v f t =
    let n = above-number v t in
    let r = to_bits binary32 v % 2147483648 in
    let e : of_bits binary32 r ≡ v = abs-of_bits binary32 v f n ∙ abs-above v t in
    sym (ap (to_bits binary32) e)
    ∙ to_bits-of_bits binary32 r (mod_in (to_bits binary32 v)) (subst (λ (x : Float). T (not (is_nan x))) (sym e) n)

pub above-bits : (v : Float) → T (fits binary32 v) → T (above v) → to_bits binary32 v ≤ 2139095040
above-bits v f t = subst (λ (b : ℕ). b ≤ 2139095040) (sym (clear-bits v f t)) (bits-top v f (above-number v t))

pub under_infinity : (x : Float) → T (positive x) → T (le x (inf false))
unfolding le
under_infinity nan p = absurd p
under_infinity (inf s) p = absurd p
under_infinity (fin s m e) p = tt

infinity_bits : of_bits binary32 2139095040 ≡ inf false
unfolding of_bits
infinity_bits = refl

pub not-above : {a b : ℕ} → (b < a → ⊥) → a ≤ b
not-above {a} {b} f = le_of_suc-le-suc (lt_of_not-le f)

module _ (x v : Float) (xf : T (fits binary32 x)) (p : T (positive x)) (low : to_bits binary32 x < 2139095040) (vf : T (fits binary32 v)) (t : T (above v)) where
  abbrev xb : ℕ
  xb = to_bits binary32 x

  abbrev vb : ℕ
  vb = to_bits binary32 v

  x_is : of_bits binary32 xb ≡ x
  x_is = of_bits-to_bits binary32 x xf

  v_is : of_bits binary32 vb ≡ v
  v_is = of_bits-to_bits binary32 v vf

  -- an order of patterns is one of values
  pub le-of_bits : xb ≤ vb → T (le x v)
  le-of_bits h = go (eq-or-lt_of_le (above-bits v vf t))
    where
      go : (vb ≡ 2139095040) ⊎ (vb < 2139095040) → T (le x v)
      go (inl e) = subst (λ (y : Float). T (le x y)) (sym infinity_bits ∙ ap (of_bits binary32) (sym e) ∙ v_is) (under_infinity x p)
      go (inr k) = subst (λ (y : Float). T (le y v)) x_is (subst (λ (y : Float). T (le (of_bits binary32 xb) y)) v_is (bits-le xb vb h k))

  -- and the other way round
  pub bits_of-le : T (le x v) → xb ≤ vb
  bits_of-le h =
      let w : T (le x (of_bits binary32 vb)) = subst (λ (y : Float). T (le x y)) (sym v_is) h in
      let l : T (le (of_bits binary32 xb) (of_bits binary32 vb)) = subst (λ (y : Float). T (le y (of_bits binary32 vb))) (sym x_is) w in
      let q : T (positive (of_bits binary32 xb)) = subst (λ (y : Float). T (positive y)) (sym x_is) p in
      not-above (λ (k : vb < xb). bits-lt xb vb k low q l)

-- ---- x < y ≤ v
pub through_lt : (x y z p q r : ℕ) → 0 < r → x * q < y * p → y * r ≤ z * q → x * r < z * p
through_lt x y z p q r R h k =
    lt_of_mul-lt-mul_right q
    (lt_of_le_of_lt (le_of_eq (mul_right_comm x r q))
    (lt_of_lt_of_le (mul-lt-mul_of_pos_right h R)
    (le_trans (le_of_eq (mul_right_comm y p r))
    (le_trans (mul-le-mul_right p k) (le_of_eq (mul_right_comm z q p))))))

pub lt_through : (x y v : Float) → T (positive x) → T (positive y) → num x * den y < num y * den x → T (le y v) → T (lt x v)
unfolding lt
lt_through x y v p q h k = go x v p h (above_of_le y v q k) k
  where
    go : (x v : Float) → T (positive x) → num x * den y < num y * den x → T (above v) → T (le y v) → T (lt x v)
    go nan v p h a k = absurd p
    go (inf s) v p h a k = absurd p
    go (fin true m e) v p h a k = absurd p
    go (fin false m e) nan p h a k = absurd a
    go (fin false m e) (inf true) p h a k = absurd a
    go (fin false m e) (inf false) p h a k = tt
    go (fin false m e) (fin true n d) p h a k = absurd a
    go (fin false m e) (fin false n d) p h a k =
        lt→ltb (m * up e * down d) (n * up d * down e)
        (through_lt (m * up e) (num y) (n * up d) (down e) (den y) (down d) (down_pos d) h (le→cross y (fin false n d) q a k))
