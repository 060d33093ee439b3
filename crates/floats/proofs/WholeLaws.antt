-- Truncation by a large addend: y + 2 ^ 23 rounds to a whole number N next to it, N less 2 ^ 23 is exact, and it is y's whole part, or one more where it
-- is above y. Assumes nothing.
use mathlib.Core.Path.{◌≡◌, refl, sym, ap, ◌∙◌, subst}
use Prim.Native.Nat.{ℕ, zero, suc, ◌+◌, ◌-◌, ◌*◌, ◌/◌, ◌%◌, ◌^◌, ◌≤◌, ◌<◌, min, zero-le}
use native.Mathlib.Nat.{lt_of_le_of_lt, not-le_of_lt, mul-one, mul_right_comm, mul-pos, add-mul, pow-succ'}
use native.Mathlib.Nat.{lt_of_mul-lt-mul_right, le_of_mul-le-mul_right, eq_of_mul-eq-mul_right, div-add-mod', mod-lt, le-div_iff_mul-le, div-lt_iff_lt-mul}
use native.Mathlib.Omega.{arith}
use mathlib.Core.Bool.{Bool, true, false, not, ◌&&◌, cond, true≢false}
use lib.Dec.{T, leb, ltb, eqb, ltb→lt, nltb→le}
use lib.IntN.{ℤ, pos, negsuc}
use lib.Pow.{pow_pos}
use lib.Ieee.{Float, nan, inf, fin, Format, binary32, up, down, round, sum, add, sub, lt, le, odd, of_fields, of_bits, to_bits, fits, is_nan, to_signed}
use lib.Ieee.Bits.{of_bits-fits, to_bits-of_bits}
use lib.Ieee.Fits.{and_l, and_r, down_pos, add-fits}
use lib.Ieee.Exact.{HasValue, odd_sign}
use lib.Ieee.Back.{round_whole, whole_unique}
use lib.Ieee.Order.{round_mono}
use lib.Ieee.Scale.{round_same}
use lib.Ieee.Positive.{num, den, den_pos, positive, own_value, positive_of_value, values_of_le, between, first_pos, above_of_le, above as above_zero}
use Rattle.floats.proofs.CutLaws.{no_sign}
use Rattle.floats.specs.Single.{Short}

-- 2 ^ 23
abbrev large : Float
large = fin false 1 (pos 23)

large-bits : of_bits binary32 1258291200 ≡ large
unfolding of_bits
large-bits = refl

-- ---- a value from 2 ^ 23 up is whole
abbrev Whole : Float → Type 0
Whole x = (N : ℕ) × HasValue x false N 1

few_digits : (s : Bool) (m : ℕ) (e : ℤ) → T (fits binary32 (fin s (suc m) e)) → suc m < 16777216
unfolding fits
few_digits s m e t =
    let A = eqb (suc m % 2) 1 in
    let B = ltb (suc m) 16777216 in
    let C = leb (down e) (2 ^ 149) in
    let D = ltb (suc m * up e) (2 ^ 128 * down e) in
    ltb→lt (suc m) 16777216 (and_r A B (and_l (A && B) C (and_l (A && B && C) D t)))

too_many : (m p : ℕ) → 0 < p → m < 16777216 → 8388608 * (2 * p) ≤ m * 1 → ⊥
too_many m p P h k = omega arith

is_whole : (m : ℕ) (e : ℤ) → T (fits binary32 (fin false (suc m) e)) → 8388608 * down e ≤ suc m * up e → Whole (fin false (suc m) e)
is_whole m (pos k) t h = (suc m * 2 ^ k, (refl, refl))
is_whole m (negsuc k) t h =
    absurd (too_many (suc m) (2 ^ k) (pow_pos k) (few_digits false m (negsuc k) t) (subst (λ (p : ℕ). 8388608 * p ≤ suc m * 1) (pow-succ' 2 k) h))

whole_above : (z : Float) → T (fits binary32 z) → T (positive z) → 8388608 * den z ≤ num z → Whole z
whole_above nan t p h = absurd p
whole_above (inf s) t p h = absurd p
whole_above (fin true m e) t p h = absurd p
whole_above (fin false zero e) t p h = absurd p
whole_above (fin false (suc m) e) t p h = is_whole m e t h

-- ---- the sum
large_sum : (m : ℕ) (e : ℤ) → add binary32 (fin false m e) large ≡ round binary32 false (m * up e * 1 + 8388608 * down e) (down e * 1)
unfolding add sum
large_sum m e = refl

module _ (a d : ℕ) (D : 0 < d) (small : a < 4096 * d) where
  abbrev q : ℕ
  q = a / d

  abbrev R : Float
  R = round binary32 false (a * 1 + 8388608 * d) (d * 1)

  q-le : q * d ≤ a
  q-le = omega (arith, div-add-mod' a d)

  q-lt : a < (q + 1) * d
  q-lt = omega (arith, div-add-mod' a d, mod-lt a D, add-mul q 1 d)

  q-small : q < 4096
  q-small = (div-lt_iff_lt-mul D).1 small

  abbrev below-R : Float
  below-R = round binary32 false (8388608 + q) 1

  abbrev above-R : Float
  above-R = round binary32 false (8388608 + q + 1) 1

  under : T (le below-R R)
  under =
      round_mono binary32 (8388608 + q) 1 (a * 1 + 8388608 * d) (d * 1) (pow_pos 0) (mul-pos D (pow_pos 0))
      (omega (arith, q-le, mul-one d, add-mul 8388608 q d))

  over : T (le R above-R)
  over =
      round_mono binary32 (a * 1 + 8388608 * d) (d * 1) (8388608 + q + 1) 1 (mul-pos D (pow_pos 0)) (pow_pos 0)
      (omega (arith, q-lt, mul-one d, add-mul 8388608 q d, add-mul (8388608 + q) 1 d, add-mul q 1 d))

  low_val : HasValue below-R false (8388608 + q) 1
  low_val = round_whole binary32 false (8388608 + q) (omega (arith, q-small))

  high_val : HasValue above-R false (8388608 + q + 1) 1
  high_val = round_whole binary32 false (8388608 + q + 1) (omega (arith, q-small))

  low-pos : T (positive below-R)
  low-pos = positive_of_value below-R (8388608 + q) 1 low_val (omega arith)

  high-pos : T (positive above-R)
  high-pos = positive_of_value above-R (8388608 + q + 1) 1 high_val (omega arith)

  R-pos : T (positive R)
  R-pos = between below-R R above-R low-pos high-pos under over

  from : (8388608 + q) * den R ≤ num R * 1
  from = values_of_le below-R R (8388608 + q) 1 (num R) (den R) low-pos R-pos low_val (own_value R R-pos) under

  whole-R : T (fits binary32 R) → Whole R
  whole-R t = whole_above R t R-pos (omega (arith, from, add-mul 8388608 q (den R)))

  -- the whole number is next to the sum
  abbrev Next : ℕ → Type 0
  Next N = (8388608 + q ≤ N) × (N ≤ 8388608 + q + 1)

  next : (w : Whole R) → Next w.0
  next w = (
    drop_ones (values_of_le below-R R (8388608 + q) 1 w.0 1 low-pos R-pos low_val w.1 under),
    drop_ones (values_of_le R above-R w.0 1 (8388608 + q + 1) 1 R-pos high-pos w.1 high_val over),
  )
    where
      drop_ones : {x y : ℕ} → x * 1 ≤ y * 1 → x ≤ y
      drop_ones {x} {y} h = omega arith

  -- one less where it is above a / d
  less_one : (N : ℕ) → Next N → a < (N - 8388608) * d → N - 8388608 - 1 ≡ q
  less_one N n h =
      let k : q < N - 8388608 = lt_of_mul-lt-mul_right d (lt_of_le_of_lt q-le h) in
      omega arith

  as_it_is : (N : ℕ) → Next N → (N - 8388608) * d ≤ a → N - 8388608 ≡ q
  as_it_is N n h =
      let k : N - 8388608 ≤ q = (le-div_iff_mul-le D).1 h in
      omega arith

-- ---- the bits of a whole number from 2 ^ 23 up
halve : (x : Float) (N P : ℕ) → 0 < P → HasValue x false (N * P) P → HasValue x false N 1
halve nan N P p h = absurd h
halve (inf s) N P p h = absurd h
halve (fin s m e) N P p h = (h.0, mul-one (m * up e) ∙ eq_of_mul-eq-mul_right P p (m * up e) (N * down e) (h.1 ∙ mul_right_comm N P (down e)))

odd-at : (t : ℕ) → of_fields binary32 false 150 t ≡ odd 24 false (8388608 + t) 149 149
unfolding of_fields
odd-at t = refl

high_field : (t : ℕ) → t < 8388608 → (1258291200 + t) / 8388608 ≡ 150
high_field t h = omega arith

low_field : (t : ℕ) → t < 8388608 → (1258291200 + t) % 8388608 ≡ t
low_field t h = omega arith

bits-value : (t : ℕ) → t < 8388608 → HasValue (of_bits binary32 (1258291200 + t)) false (8388608 + t) 1
bits-value t h =
    subst (λ (x : Float). HasValue x false (8388608 + t) 1)
    (sym
    (no_sign (1258291200 + t) (omega arith)
    ∙ ap (λ (x : ℕ). of_fields binary32 false x ((1258291200 + t) % 8388608)) (high_field t h)
    ∙ ap (of_fields binary32 false 150) (low_field t h)
    ∙ odd-at t))
    (halve (odd 24 false (8388608 + t) 149 149) (8388608 + t) (2 ^ 149) (pow_pos 149) (odd_sign 24 false (8388608 + t) 149 149))

no_nan : (x : Float) (N : ℕ) → HasValue x false N 1 → T (not (is_nan x))
unfolding is_nan
no_nan nan N h = absurd h
no_nan (inf s) N h = absurd h
no_nan (fin s m e) N h = tt

whole-bits : (z : Float) (N : ℕ) → T (fits binary32 z) → HasValue z false N 1 → 8388608 ≤ N → N < 16777216 → to_bits binary32 z ≡ 1258291200 + (N - 8388608)
whole-bits z N t v l h =
    let r = N - 8388608 in
    let k : r < 8388608 = omega arith in
    let e : 8388608 + r ≡ N = omega arith in
    let b = of_bits binary32 (1258291200 + r) in
    let bv : HasValue b false N 1 = subst (λ (n : ℕ). HasValue b false n 1) e (bits-value r k) in
    ap (to_bits binary32) (whole_unique binary32 z b false N t (of_bits-fits binary32 (1258291200 + r)) v bv)
    ∙ to_bits-of_bits binary32 (1258291200 + r) (omega arith) (no_nan b N bv)

-- ---- 2 ^ 23 less
pick : (f : Format) (a b c : ℕ) → b ≤ a → sum f false a true b c ≡ round f false (a - b) c
unfolding sum
pick f a b c h = go (ltb a b) (ltb→lt a b)
  where
    go : (t : Bool) → (T t → a < b) → cond t (round f true (b - a) c) (round f false (a - b) c) ≡ round f false (a - b) c
    go true k = absurd (not-le_of_lt (k tt) h)
    go false k = refl

opened : (m : ℕ) (e : ℤ) → sub binary32 (fin false m e) large ≡ sum binary32 false (m * up e * 1) true (8388608 * down e) (down e * 1)
unfolding sub add
opened m e = refl

less_large : (z : Float) (N : ℕ) → HasValue z false N 1 → 8388608 ≤ N → sub binary32 z large ≡ round binary32 false (N - 8388608) 1
less_large nan N v h = absurd v
less_large (inf s) N v h = absurd v
less_large (fin true m e) N v h = absurd (true≢false v.0)
less_large (fin false m e) N v h =
    let D = down e in
    let s : N * D ≡ (N - 8388608) * D + 8388608 * D = ap (λ (n : ℕ). n * D) (apart N h) ∙ add-mul (N - 8388608) 8388608 D in
    opened m e
    ∙ pick binary32 (m * up e * 1) (8388608 * D) (D * 1) (omega (arith, v.1, s))
    ∙ round_same binary32 false (m * up e * 1 - 8388608 * D) (D * 1) (N - 8388608) 1 (mul-pos (down_pos e) (pow_pos 0)) (pow_pos 0)
    (shorter (m * up e * 1) (N * D) ((N - 8388608) * D) (8388608 * D) v.1 s ∙ ap (λ (n : ℕ). (N - 8388608) * n) (sym (mul-one D)))
  where
    apart : (N : ℕ) → 8388608 ≤ N → N ≡ N - 8388608 + 8388608
    apart N h = omega arith

    shorter : (x y p r : ℕ) → x ≡ y → y ≡ p + r → (x - r) * 1 ≡ p
    shorter x y p r e f = omega arith

-- ---- the comparison
swap : (M G d : ℕ) → M * G * d ≡ M * d * G
swap M G d = mul_right_comm M G d

below-whole : (m : ℕ) (e : ℤ) (w : Float) (M : ℕ) → HasValue w false M 1 → lt (fin false m e) w ≡ ltb (m * up e * den w) (M * down e * den w)
unfolding lt
below-whole m e nan M v = absurd v
below-whole m e (inf s) M v = absurd v
below-whole m e (fin true n g) M v = absurd (true≢false v.0)
below-whole m e (fin false n g) M v =
    ap (λ (x : ℕ). ltb (m * up e * down g) x) (ap (λ (x : ℕ). x * down e) (sym (mul-one (n * up g)) ∙ v.1) ∙ mul_right_comm M (down g) (down e))

is_below_lem : (m : ℕ) (e : ℤ) (w : Float) (M : ℕ) → HasValue w false M 1 → lt (fin false m e) w ≡ true → m * up e < M * down e
is_below_lem m e w M v h = lt_of_mul-lt-mul_right (den w) (ltb→lt (m * up e * den w) (M * down e * den w) (subst T (sym h ∙ below-whole m e w M v) tt))

not-below : (m : ℕ) (e : ℤ) (w : Float) (M : ℕ) → HasValue w false M 1 → lt (fin false m e) w ≡ false → M * down e ≤ m * up e
not-below m e w M v h =
    le_of_mul-le-mul_right
    (nltb→le (m * up e * den w) (M * down e * den w) (subst (λ (b : Bool). T (not b)) (sym h ∙ below-whole m e w M v) tt))
    (den_pos w)

-- ---- all together
uncapped : (n : ℕ) → n < 4096 → pos n ≡ pos (min n 2147483647)
uncapped n h = ap pos (small n h)
  where
    small : (n : ℕ) → n < 4096 → n ≡ min n 2147483647
    small n h = omega arith

-- what is said of y, where `large` is 2 ^ 23, z = y + large and w = z - large
pub record Truncated (large y : Float) : Type 0 where
  pub N : ℕ
  pub number : T (not (is_nan (add binary32 y large)))
  pub bits : to_bits binary32 (add binary32 y large) ≡ 1258291200 + (N - 8388608)
  pub above : lt y (sub binary32 (add binary32 y large) large) ≡ true → (0 < N - 8388608) × (pos (N - 8388608 - 1) ≡ to_signed 31 y) × (N - 8388608 - 1 < 4096)
  pub exact : lt y (sub binary32 (add binary32 y large) large) ≡ false → (pos (N - 8388608) ≡ to_signed 31 y) × (N - 8388608 < 4096)

trunc : (m : ℕ) (e : ℤ) → m * up e < 4096 * down e → Truncated large (fin false m e)
unfolding to_signed
trunc m e h =
    let a = m * up e in
    let d = down e in
    let D = down_pos e in
    let z = add binary32 (fin false m e) large in
    let s = large_sum m e in
    let W = whole-R a d D h (subst (λ (x : Float). T (fits binary32 x)) s (add-fits binary32 (fin false m e) large)) in
    let N = W.0 in
    let n = next a d D h W in
    let qs = q-small a d D h in
    let zv : HasValue z false N 1 = subst (λ (x : Float). HasValue x false N 1) (sym s) W.1 in
    let lo : 8388608 ≤ N = omega (arith, n.0) in
    let w = sub binary32 z large in
    let wr : HasValue (round binary32 false (N - 8388608) 1) false (N - 8388608) 1 = round_whole binary32 false (N - 8388608) (omega (arith, n.1, qs)) in
    let wv : HasValue w false (N - 8388608) 1 = subst (λ (x : Float). HasValue x false (N - 8388608) 1) (sym (less_large z N zv lo)) wr in
    record {
      N = N;
      number = no_nan z N zv;
      bits = whole-bits z N (add-fits binary32 (fin false m e) large) zv lo (omega (arith, n.1, qs));
      above = λ t.
          let b = is_below_lem m e w (N - 8388608) wv t in
          let x = less_one a d D h N n b in
          (first_pos (N - 8388608) d (lt_of_le_of_lt zero-le b), ap pos x ∙ uncapped (a / d) qs, subst (λ (k : ℕ). k < 4096) (sym x) qs);
      exact = λ t.
          let x = as_it_is a d D h N n (not-below m e w (N - 8388608) wv t) in
          (ap pos x ∙ uncapped (a / d) qs, subst (λ (k : ℕ). k < 4096) (sym x) qs);
    }

pub truncated : (y : Float) → Short y → Truncated (of_bits binary32 1258291200) y
unfolding lt
truncated y h = subst (λ (x : Float). Truncated x y) (sym large-bits) (go y (above_of_le (fin false 1 (pos 0)) y tt h.least) h.most)
  where
    go : (y : Float) → T (above_zero y) → T (lt y (fin false 1 (pos 12))) → Truncated large y
    go nan a k = absurd a
    go (inf true) a k = absurd a
    go (inf false) a k = absurd k
    go (fin true m e) a k = absurd a
    go (fin false m e) a k = trunc m e (subst (λ (x : ℕ). x < 4096 * down e) (mul-one (m * up e)) (ltb→lt (m * up e * 1) (4096 * down e) k))
