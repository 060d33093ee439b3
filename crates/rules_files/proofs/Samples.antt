-- A sample's value. A cast and a division by 2 ^ 15 or 2 ^ 23 round nothing; a pattern is a finite float's by its exponent's bits. Assumes nothing.
use mathlib.Core.Path.{◌≡◌, refl, sym, ap, ◌∙◌, subst}
use mathlib.Core.List.{List}
use mathlib.Core.Logic.{◌⊎◌, inl, inr, ⊎_elim}
use mathlib.Core.Bool.{Bool, true, false, not, cond, ◌||◌}
use Prim.Native.Nat.{ℕ, zero, suc, ◌+◌, ◌-◌, ◌*◌, ◌/◌, ◌%◌, ◌^◌, ◌≤◌, ◌<◌, min}
use native.Mathlib.Nat.{mul_assoc, mul-one, mul-pos, mod-lt, lt_of_lt_of_le, le_of_lt, zero-lt-suc, div-mul-le_self}
use native.Mathlib.Omega.{arith}
use borrow.Author.Tests.{leb-true, leb-false, le-leb, lt-leb, eqb-true, eqb-false, eq-eqb, ne_eqb, ltb-true, ltb-false}
use lib.Count.{count_trailing_zeros}
use lib.Dec.{T, eqb, leb, ltb}
use lib.IntN.{ℤ, pos, negsuc, neg_ℤ, nat_abs}
use lib.ListN.{length}
use lib.Pow.{pow-add, pow_pos, pow_mono, shl_lt}
use lib.Ieee.{Float, nan, inf, fin, binary32, up, down, unlike, minus, odd, round, div, of_int, fits, is_nan, of_fields, of_bits, nan_bits}
use lib.Ieee.Back.{round_whole}
use lib.Ieee.Bits.{nan_bits_is}
use lib.Ieee.Digits.{back}
use lib.Ieee.Exact.{HasValue, odd_sign, round_exact}
use lib.Ieee.Fits.{down_pos, odd-fits, round-fits}
use lib.Ieee.Scale.{finite, round_same}
use Rattle.floats.proofs.SumValues.{value_unique}
use Rattle.rules_files.specs.Wav.{is_depth, sample_width, whole_samples, over_power, signed_sample, sample_of}
use Rattle.rules_files.specs.declared.wav.WavData.{WavData}

-- ---- the three depths, and the bytes of a sample

pub depth_cases : (depth : ℕ) → is_depth depth ≡ true → (depth ≡ 16) ⊎ ((depth ≡ 24) ⊎ (depth ≡ 32))
unfolding is_depth
depth_cases depth e = go (eqb depth 16) (eqb depth 24) (eqb depth 32) (eqb-true depth 16) (eqb-true depth 24) (eqb-true depth 32) e
  where
    go : (a b c : Bool) → (a ≡ true → depth ≡ 16) → (b ≡ true → depth ≡ 24) → (c ≡ true → depth ≡ 32) → (a || (b || c)) ≡ true
        → (depth ≡ 16) ⊎ ((depth ≡ 24) ⊎ (depth ≡ 32))
    go true b c p q r h = inl (p refl)
    go false true c p q r h = inr (inl (q refl))
    go false false c p q r h = inr (inr (r h))

pub width-within : (depth : ℕ) → is_depth depth ≡ true → (2 ≤ sample_width depth) × (sample_width depth ≤ 4)
width-within depth e =
    ⊎_elim (λ (h : depth ≡ 16). omega arith) (⊎_elim (λ (h : depth ≡ 24). omega arith) (λ (h : depth ≡ 32). omega arith)) (depth_cases depth e)

-- the whole samples end inside the file
pub whole-within : (wav : List ℕ) (d : WavData) → d.body ≤ length wav → d.body + whole_samples wav d * sample_width d.format.depth ≤ length wav
unfolding whole_samples
whole-within wav d h = omega (arith, div-mul-le_self (min d.size (length wav - d.body)) (sample_width d.format.depth))

-- ---- the exponent may be counted from any place

minus_shift : (a b j : ℕ) → minus (a + j) (b + j) ≡ minus a b
minus_shift a b j = go (leb b a) refl
  where
    go : (t : Bool) → leb b a ≡ t → minus (a + j) (b + j) ≡ minus a b
    go true e =
        let h : b ≤ a = leb-true b a e in
        let z : a + j - (b + j) ≡ a - b = omega arith in
        rw (le-leb (b + j) (a + j) (omega arith), e, z)
    go false e =
        let h : a < b = leb-false b a e in
        let z : b + j - suc (a + j) ≡ b - suc a = omega arith in
        rw (lt-leb (b + j) (a + j) (omega arith), e, z)

odd_shift : (d : ℕ) (s : Bool) (q a b j : ℕ) → odd d s q (a + j) (b + j) ≡ odd d s q a b
unfolding odd
odd_shift d s zero a b j = refl
odd_shift d s (suc q) a b j =
    let t : ℕ = count_trailing_zeros d (suc q) in
    let z : a + j + t ≡ a + t + j = omega arith in
    ap (λ (x : ℕ). fin s (suc q / 2 ^ t) (minus x (b + j))) z ∙ ap (fin s (suc q / 2 ^ t)) (minus_shift (a + t) b j)

-- ---- n / 2 ^ k for an n of 24 binary digits

module _ (s : Bool) (n k : ℕ) (small : n < 16777216) (few : k ≤ 149) where
  under : n * 2 ^ (149 - k) < 2 ^ 277
  under = lt_of_lt_of_le (shl_lt 24 (149 - k) small) (pow_mono {j = 277} (omega arith))

  whole : n * 2 ^ 149 ≡ n * 2 ^ (149 - k) * 2 ^ k
  whole = sym (mul_assoc n (2 ^ (149 - k)) (2 ^ k) ∙ ap (λ (x : ℕ). n * x) (sym (pow-add 2 (149 - k) k) ∙ ap (λ (x : ℕ). 2 ^ x) (back 149 k few)))

  over-fits : T (fits binary32 (odd 24 s n 0 k))
  over-fits =
      let z : k + (149 - k) ≡ 149 = omega arith in
      let y : 0 + (149 - k) ≡ 149 - k = omega arith in
      subst (λ (x : Float). T (fits binary32 x)) (odd_shift 24 s n 0 k (149 - k)) (rw (z, y) (odd-fits binary32 24 s n (149 - k) small (le_of_lt small) under))

  over-odd : round binary32 s n (2 ^ k) ≡ odd 24 s n 0 k
  over-odd =
      value_unique binary32 (round binary32 s n (2 ^ k)) (odd 24 s n 0 k) s n (2 ^ k) (round-fits binary32 s n (2 ^ k)) over-fits (pow_pos k)
      (round_exact binary32 s n (2 ^ k) n (149 - k) (pow_pos k) small under whole)
      (subst (λ (x : ℕ). HasValue (odd 24 s n 0 k) s x (2 ^ k)) (mul-one n) (odd_sign 24 s n 0 k))

unlike_false : (t : Bool) → unlike t false ≡ t
unlike_false true = refl
unlike_false false = refl

divided : (x : Float) (s : Bool) (n k : ℕ) → HasValue x s n 1 → div binary32 x (fin false 1 (pos k)) ≡ round binary32 s n (2 ^ k)
unfolding div
divided nan s n k v = absurd v
divided (inf t) s n k v = absurd v
divided (fin t m e) s n k v =
    let same : m * up e * 1 * 2 ^ k ≡ n * (1 * 2 ^ k * down e) = omega (arith, ap (λ (z : ℕ). z * 2 ^ k) v.1) in
    ap (λ (u : Bool). round binary32 u (m * up e * 1) (1 * 2 ^ k * down e)) (unlike_false t ∙ v.0)
    ∙ round_same binary32 s (m * up e * 1) (1 * 2 ^ k * down e) n (2 ^ k) (mul-pos (mul-pos (zero-lt-suc 0) (pow_pos k)) (down_pos e)) (pow_pos k) same

-- The integer as a float, divided by 2 ^ k, is the exact value: neither the cast nor the division rounds.
pub sample_exact : (z : ℤ) (k : ℕ) → nat_abs z < 16777216 → k ≤ 149 → div binary32 (of_int binary32 z) (fin false 1 (pos k)) ≡ over_power z k
unfolding of_int over_power
sample_exact (pos n) k h g = divided (round binary32 false n 1) false n k (round_whole binary32 false n (le_of_lt h)) ∙ over-odd false n k h g
sample_exact (negsuc n) k h g = divided (round binary32 true (suc n) 1) true (suc n) k (round_whole binary32 true (suc n) (le_of_lt h))
    ∙ over-odd true (suc n) k h g

-- The value itself: z / 2 ^ k, with z's sign.
abbrev pub is_below : ℤ → Bool
is_below (pos n) = false
is_below (negsuc n) = true

pub over-value : (z : ℤ) (k : ℕ) → HasValue (over_power z k) (is_below z) (nat_abs z) (2 ^ k)
unfolding over_power
over-value (pos n) k = subst (λ (x : ℕ). HasValue (odd 24 false n 0 k) false x (2 ^ k)) (mul-one n) (odd_sign 24 false n 0 k)
over-value (negsuc n) k = subst (λ (x : ℕ). HasValue (odd 24 true (suc n) 0 k) true x (2 ^ k)) (mul-one (suc n)) (odd_sign 24 true (suc n) 0 k)

-- so of a sample: its integer over 32,768 or 8,388,608
pub sample-value : (p : ℕ) → HasValue (sample_of 16 p) (is_below (signed_sample 32768 p)) (nat_abs (signed_sample 32768 p)) 32768
    × HasValue (sample_of 24 p) (is_below (signed_sample 8388608 p)) (nat_abs (signed_sample 8388608 p)) 8388608
unfolding sample_of
sample-value p = (over-value (signed_sample 32768 p) 15, over-value (signed_sample 8388608 p) 23)

-- ---- finite values

finite-odd : (d : ℕ) (s : Bool) (q k l : ℕ) → finite (odd d s q k l) ≡ true
unfolding odd
finite-odd d s zero k l = refl
finite-odd d s (suc q) k l = refl

finite-over : (z : ℤ) (k : ℕ) → finite (over_power z k) ≡ true
unfolding over_power
finite-over (pos n) k = finite-odd 24 false n 0 k
finite-over (negsuc n) k = finite-odd 24 true (suc n) 0 k

-- every integer is finite
pub whole-finite : (depth p : ℕ) → (depth ≡ 32 → ⊥) → finite (sample_of depth p) ≡ true
unfolding sample_of
whole-finite depth p h = rw (ne_eqb depth 32 h) (finite-over (signed_sample (2 ^ (depth - 1)) p) (depth - 1))

fields-finite : (s : Bool) (x t : ℕ) → finite (of_fields binary32 s x t) ≡ not (eqb x 255)
unfolding of_fields
fields-finite s zero t = finite-odd 24 s t 0 149
fields-finite s (suc x) t = go (eqb (suc x) 255) (eqb t 0)
  where
    go : (b c : Bool) → finite (cond b (cond c (inf s) nan) (odd 24 s (8388608 + t) x 149)) ≡ not b
    go true true = refl
    go true false = refl
    go false c = finite-odd 24 s (8388608 + t) x 149

-- a float is finite where its exponent's bits are not all ones
pub pattern_finite : (p : ℕ) → ltb (p % 2147483648) 2139095040 ≡ finite (of_bits binary32 p)
unfolding of_bits
pattern_finite p = exponent (p % 2147483648) (mod-lt p (zero-lt-suc 2147483647))
    ∙ sym (fields-finite (leb 2147483648 p) (p % 2147483648 / 8388608) (p % 8388608))
  where
    exponent : (r : ℕ) → r < 2147483648 → ltb r 2139095040 ≡ not (eqb (r / 8388608) 255)
    exponent r h = go (ltb r 2139095040) refl
      where
        go : (b : Bool) → ltb r 2139095040 ≡ b → b ≡ not (eqb (r / 8388608) 255)
        go true e = rw (ne_eqb (r / 8388608) 255 (λ q. omega (arith, ltb-true r 2139095040 e)))
        go false e = rw (eq-eqb (r / 8388608) 255 (omega (arith, ltb-false r 2139095040 e)))

no_nan : (x : Float) → finite x ≡ true → T (not (is_nan x))
unfolding is_nan
no_nan nan h = subst T (sym h) tt
no_nan (inf s) h = tt
no_nan (fin s m e) h = tt

-- and has a pattern of its own
pub finite_pattern : (p : ℕ) → finite (of_bits binary32 p) ≡ true → T (not (nan_bits binary32 p))
finite_pattern p e = subst (λ (b : Bool). T (not b)) (sym (nan_bits_is binary32 p)) (no_nan (of_bits binary32 p) e)
