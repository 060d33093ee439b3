-- A value reaches a whole number where its whole part does; and what a code below resolution 8 takes, by the whole part, in both modes. Assumes
-- nothing.
use mathlib.Core.Path.{◌≡◌, refl, sym, ap, ◌∙◌}
use mathlib.Core.Bool.{Bool, true, false, cond, ◌&&◌, ◌||◌}
use mathlib.Core.List.{[], ◌∷◌}
use Prim.Native.Nat.{ℕ, zero, suc, ◌+◌, ◌-◌, ◌*◌, ◌/◌, ◌^◌, ◌≤◌, ◌<◌, min}
use native.Mathlib.Nat.{le-div_iff_mul-le, div-lt_iff_lt-mul, mul-le-mul, mul-one}
use native.Mathlib.Numerals.{add-one}
use native.Mathlib.Omega.{arith}
use borrow.Author.Tests.{ltb-true, ltb-false, leb-true, leb-false, eqb-true, eqb-false, lt-ltb, le-ltb, le-leb, lt-leb, ne_eqb}
use lib.Dec.{eqb, leb, ltb}
use lib.IntN.{ℤ, pos, negsuc, neg_ℤ, ◌-ℤ◌}
use lib.Ieee.{Float, nan, inf, fin, binary32, up, down, le, lt, eq, of_int, to_signed, add, mul}
use lib.Ieee.Fits.{down_pos}
use lib.ListN.{get_or}
use Rattle.buffers.specs.Walk.{build, every}
use Rattle.buffers.proofs.Every.{every-at}
use Rattle.rules.specs.Tables.{spectrum_bits}
use Rattle.floats.specs.Single.{one_f}
use Rattle.rules.specs.Code.{step_shift, code_place, raw_code}
use Rattle.rules.specs.Estimate.{value_bits}
use Rattle.rules.specs.Signed.{held_z}
use Rattle.rules.specs.declared.Mode.{Mode}
use Rattle.rules.specs.declared.Mode.TheVariants.{Rust, Held}
use Rattle.quantizer.specs.Marks.{whole_f, near_at, far_at, past_at, high_at, limited_bits, low_at, drop_at, marks_at}
use Rattle.quantizer.specs.declared.counts.Marks.{Marks}
use Rattle.quantizer.proofs.Signs.{place-pos, place-neg, held_below, held-above}
use Rattle.quantizer.proofs.Entries.{build_agrees, shift_low}

-- a whole number, 0 where it is negative
abbrev pub whole_n : ℤ → ℕ
whole_n (pos n) = n
whole_n (negsuc n) = 0

negated_none : (n : ℕ) → whole_n (neg_ℤ (pos n)) ≡ 0
negated_none zero = refl
negated_none (suc n) = refl

and_none : (b : Bool) → (b && false) ≡ false
and_none true = refl
and_none false = refl

below_or_equal : (a b : ℕ) → (ltb a b || (eqb a b && true)) ≡ leb a b
below_or_equal a b = go (ltb a b) (eqb a b) refl refl
  where
    go : (p q : Bool) → ltb a b ≡ p → eqb a b ≡ q → (p || (q && true)) ≡ leb a b
    go true q e f = sym (le-leb a b (omega (arith, ltb-true a b e)))
    go false true e f = sym (le-leb a b (omega (arith, eqb-true a b f)))
    go false false e f = sym (lt-leb a b (omega (arith, ltb-false a b e, eqb-false a b f)))

product_at_most : (k b d m : ℕ) → 0 < d → k ≤ m → leb (k * d) b ≡ leb k (min (b / d) m)
product_at_most k b d m h l = go (leb (k * d) b) refl
  where
    go : (t : Bool) → leb (k * d) b ≡ t → t ≡ leb k (min (b / d) m)
    go true e = let z : k ≤ b / d = (le-div_iff_mul-le h).1 (leb-true (k * d) b e) in sym (le-leb k (min (b / d) m) (omega arith))
    go false e = let z : b / d < k = (div-lt_iff_lt-mul h).1 (leb-false (k * d) b e) in sym (lt-leb k (min (b / d) m) (omega arith))

-- the number written with its twos apart
module _ (q j : ℕ) (some : 1 ≤ q * 2 ^ j) (most : q * 2 ^ j ≤ 2147483647) where
  reaches : (y : Float) → le (fin false q (pos j)) y ≡ leb (q * 2 ^ j) (whole_n (to_signed 31 y))
  unfolding le lt eq to_signed
  reaches nan = sym (lt-leb (q * 2 ^ j) 0 some)
  reaches (inf true) = sym (lt-leb (q * 2 ^ j) 0 some)
  reaches (inf false) = sym (le-leb (q * 2 ^ j) 2147483647 most)
  reaches (fin true n d) =
      let a = q * 2 ^ j * down d in
      let z : 1 * 1 ≤ a = mul-le-mul some (down_pos d) in
      rw (ne_eqb a 0 (λ e. omega arith), negated_none (min (n * up d / down d) 2147483648)) (and_none (eqb a (n * up d * 1)) ∙ sym (lt-leb (q * 2 ^ j) 0 some))
  reaches (fin false n d) =
      below_or_equal (q * 2 ^ j * down d) (n * up d * 1)
      ∙ ap (leb (q * 2 ^ j * down d)) (mul-one (n * up d))
      ∙ product_at_most (q * 2 ^ j) (n * up d) (down d) 2147483647 (down_pos d) most

-- ---- the whole numbers up to 16
odd_of : ℕ → ℕ
odd_of k = get_or (0 ∷ 1 ∷ 1 ∷ 3 ∷ 1 ∷ 5 ∷ 3 ∷ 7 ∷ 1 ∷ 9 ∷ 5 ∷ 11 ∷ 3 ∷ 13 ∷ 7 ∷ 15 ∷ 1 ∷ []) k 0

twos_of : ℕ → ℕ
twos_of k = get_or (0 ∷ 0 ∷ 1 ∷ 0 ∷ 2 ∷ 0 ∷ 1 ∷ 0 ∷ 3 ∷ 0 ∷ 1 ∷ 0 ∷ 2 ∷ 0 ∷ 1 ∷ 0 ∷ 4 ∷ []) k 0

whole_form : (k : ℕ) → k ≤ 16 → whole_f k ≡ fin false (odd_of k) (pos (twos_of k))
unfolding build odd_of twos_of of_int
whole_form k h = build_agrees whole_f (λ (i : ℕ). fin false (odd_of i) (pos (twos_of i))) 17 refl k (omega arith)

odd_twos : (k : ℕ) → k ≤ 16 → odd_of k * 2 ^ twos_of k ≡ k
unfolding build odd_of twos_of
odd_twos k h = build_agrees (λ (i : ℕ). odd_of i * 2 ^ twos_of i) (λ (i : ℕ). i) 17 refl k (omega arith)

pub reaches_whole : (k : ℕ) (y : Float) → 1 ≤ k → k ≤ 16 → le (whole_f k) y ≡ leb k (whole_n (to_signed 31 y))
reaches_whole k y h l =
    let e = odd_twos k l in
    ap (λ (x : Float). le x y) (whole_form k l)
    ∙ reaches (odd_of k) (twos_of k) (rw e h) (rw e (omega arith)) y
    ∙ ap (λ (n : ℕ). leb n (whole_n (to_signed 31 y))) e

-- ---- by the whole part
-- what the table has for a whole part, in a mode
bits_at : Mode → ℕ → ℕ → ℕ
bits_at m r w = limited_bits m r (pos w -ℤ pos (suc r))

low-silent : (r p : ℕ) → r < 8 → p ≤ 7 - r → get_or (get_or spectrum_bits r []) p 0 ≡ 0
unfolding build spectrum_bits
low-silent r p h l =
    let z = build_agrees (λ (i : ℕ). build (λ (n : ℕ). cond (leb n (7 - i)) (get_or (get_or spectrum_bits i []) n 0) 0) 8) (λ (i : ℕ). build (λ (n : ℕ). 0) 8) 8 refl
    r h in
    let y : cond (leb p (7 - r)) (get_or (get_or spectrum_bits r []) p 0) 0
    ≡ 0 = build_agrees (λ (n : ℕ). cond (leb n (7 - r)) (get_or (get_or spectrum_bits r []) n 0) 0) (λ (n : ℕ). 0) 8 z p (omega arith) in
    rw (le-leb p (7 - r) l) at y

-- 0 less r + 1 is one below the range
held_start : (r : ℕ) → held_z (neg_ℤ (pos r)) (pos r) (pos 0 -ℤ pos (suc r)) ≡ neg_ℤ (pos r)
held_start r = rw (lt-ltb 0 (suc r) (omega arith)) (held_below r (suc r - 1) (omega arith))

-- a negative whole number is as 0: in the Rust's mode both take no bits, in held mode both are held to one code
bits_below : (m : Mode) (r n : ℕ) → r < 8 → limited_bits m r (negsuc n -ℤ pos (suc r)) ≡ bits_at m r 0
unfolding bits_at
bits_below Rust r n h =
    low-silent r _ h (place-neg r n h) ∙ sym (ap (λ p. get_or (get_or spectrum_bits r []) p 0) (place-pos r 0 h) ∙ low-silent r (min (7 - r + 0) 15) h (omega arith))
bits_below Held r n h =
    ap (λ z. get_or (get_or spectrum_bits r []) (code_place z) 0) (held_below r (suc (n + r)) (omega arith) ∙ sym (held_start r))

bits-whole : (m : Mode) (r : ℕ) (z : ℤ) → r < 8 → limited_bits m r (z -ℤ step_shift r) ≡ bits_at m r (whole_n z)
unfolding bits_at
bits-whole m r z h = ap (λ (s : ℤ). limited_bits m r (z -ℤ s)) (sym (shift_low r h) ∙ ap pos (add-one r)) ∙ go z
  where
    go : (z : ℤ) → limited_bits m r (z -ℤ pos (suc r)) ≡ limited_bits m r (pos (whole_n z) -ℤ pos (suc r))
    go (pos w) = refl
    go (negsuc n) = unfold bits_at in bits_below m r n h

-- both ways of counting, at a whole part: what is added, and what is taken off with what is left
bits_added : Mode → ℕ → ℕ → ℕ
bits_added m r w = low_at m r + cond (leb 1 w) (high_at r - low_at m r) 0 + cond (leb (far_at r) w) 1 0

bits_taken_off : Mode → ℕ → ℕ → ℕ
bits_taken_off m r w = bits_at m r w + (cond (leb (near_at r) w) 1 0 + cond (leb (past_at r) w) (drop_at m r) 0)

abbrev AllParts : Mode → Type 0
AllParts m = build (λ (i : ℕ). build (bits_added m i) 17) 8 ≡ build (λ (i : ℕ). build (bits_taken_off m i) 17) 8

all_parts : (m : Mode) → AllParts m
unfolding build bits_added bits_taken_off bits_at near_at far_at past_at high_at low_at drop_at spectrum_bits code_place held_z
all_parts Rust = refl
all_parts Held = refl

small_parts : (m : Mode) (r w : ℕ) → r < 8 → w ≤ 16 → bits_added m r w ≡ bits_taken_off m r w
small_parts m r w h l =
    build_agrees (bits_added m r) (bits_taken_off m r) 17
    (build_agrees (λ (i : ℕ). build (bits_added m i) 17) (λ (i : ℕ). build (bits_taken_off m i) 17) 8 (all_parts m) r h) w (omega arith)

-- the marks are from 1 to 16, so that no larger whole part differs from 16
marks_in : (r : ℕ) → r < 8 → (1 ≤ near_at r) × (near_at r ≤ 16) × (1 ≤ far_at r) × (far_at r ≤ 16) × (1 ≤ past_at r) × (past_at r ≤ 16)
unfolding every near_at far_at past_at
marks_in r h = (
  leb-true _ _ (every-at (λ (i : ℕ). leb 1 (near_at i)) 8 r refl h),
  leb-true _ _ (every-at (λ (i : ℕ). leb (near_at i) 16) 8 r refl h),
  leb-true _ _ (every-at (λ (i : ℕ). leb 1 (far_at i)) 8 r refl h),
  leb-true _ _ (every-at (λ (i : ℕ). leb (far_at i) 16) 8 r refl h),
  leb-true _ _ (every-at (λ (i : ℕ). leb 1 (past_at i)) 8 r refl h),
  leb-true _ _ (every-at (λ (i : ℕ). leb (past_at i) 16) 8 r refl h),
)

capped : (k w : ℕ) → k ≤ 16 → leb k w ≡ leb k (min w 16)
capped k w h = go (leb k w) refl
  where
    go : (t : Bool) → leb k w ≡ t → t ≡ leb k (min w 16)
    go true e = let z : k ≤ w = leb-true k w e in sym (le-leb k (min w 16) (omega arith))
    go false e = let z : w < k = leb-false k w e in sym (lt-leb k (min w 16) (omega arith))

-- from 16 on a code is past every row and every range
bits_far : (m : Mode) (r w : ℕ) → r < 8 → 16 ≤ w → bits_at m r w ≡ bits_at m r 16
unfolding bits_at
bits_far Rust r w h l =
    let p : min (7 - r + w) 15 ≡ min (7 - r + 16) 15 = omega arith in
    ap (λ p. get_or (get_or spectrum_bits r []) p 0) (place-pos r w h ∙ p ∙ sym (place-pos r 16 h))
bits_far Held r w h l =
    rw (le-ltb w (suc r) (omega arith), le-ltb 16 (suc r) (omega arith), held-above r (w - suc r) (omega arith), held-above r (16 - suc r) (omega arith))

bits_capped : (m : Mode) (r w : ℕ) → r < 8 → bits_at m r w ≡ bits_at m r (min w 16)
bits_capped m r w h = go (leb 16 w) refl
  where
    go : (t : Bool) → leb 16 w ≡ t → bits_at m r w ≡ bits_at m r (min w 16)
    go true e = let z : 16 ≤ w = leb-true 16 w e in let q : min w 16 ≡ 16 = omega arith in bits_far m r w h z ∙ sym (ap (bits_at m r) q)
    go false e = let z : w < 16 = leb-false 16 w e in let q : min w 16 ≡ w = omega arith in sym (ap (bits_at m r) q)

same_parts : (m : Mode) (r w : ℕ) → r < 8 → bits_added m r w ≡ bits_taken_off m r w
unfolding bits_added bits_taken_off
same_parts m r w h =
    let k = marks_in r h in
    let l : min w 16 ≤ 16 = omega arith in
    rw (capped 1 w (omega arith), capped (far_at r) w (omega arith), capped (near_at r) w (omega arith), capped (past_at r) w (omega arith), bits_capped m r w h)
    (small_parts m r (min w 16) h l)

-- a value at resolution r below 8: what low is and reaching 1 and far adds, near and past take off again
counted : (m : Mode) (r : ℕ) (y : Float) → r < 8
    → low_at m r + cond (le (whole_f 1) y) (high_at r - low_at m r) 0 + cond (le (whole_f (far_at r)) y) 1 0
    ≡ limited_bits m r (to_signed 31 y -ℤ step_shift r) + (cond (le (whole_f (near_at r)) y) 1 0 + cond (le (whole_f (past_at r)) y) (drop_at m r) 0)
unfolding bits_added bits_taken_off
counted m r y h =
    let k = marks_in r h in
    rw (
      reaches_whole 1 y (omega arith) (omega arith),
      reaches_whole (far_at r) y (omega arith) (omega arith),
      reaches_whole (near_at r) y (omega arith) (omega arith),
      reaches_whole (past_at r) y (omega arith) (omega arith),
      bits-whole m r (to_signed 31 y) h,
    )
    (same_parts m r (whole_n (to_signed 31 y)) h)

-- the same by a resolution's marks
abbrev pub mark_sum : Float → Marks → Float
mark_sum x m = add binary32 (mul binary32 x m.step) (add binary32 m.step one_f)

pub value_counted : (mode : Mode) (r : ℕ) (x : Float) (m : Marks) → r < 8 → m ≡ marks_at mode r
    → m.low + cond (le one_f (mark_sum x m)) m.high 0 + cond (le m.far (mark_sum x m)) 1 0
    ≡ value_bits mode r x + (cond (le m.near (mark_sum x m)) 1 0 + cond (le m.past (mark_sum x m)) m.drop 0)
unfolding marks_at value_bits raw_code of_int
value_counted mode r x m h e = rw (e, lt-ltb r 8 h) (counted mode r (mark_sum x (marks_at mode r)) h)

-- low and high are together the row's high, at most 4
pub low-high : (mode : Mode) (r : ℕ) → r < 8 → low_at mode r + (high_at r - low_at mode r) ≡ high_at r
unfolding build high_at low_at spectrum_bits code_place held_z
low-high Rust r h = build_agrees (λ i. low_at Rust i + (high_at i - low_at Rust i)) high_at 8 refl r h
low-high Held r h = build_agrees (λ i. low_at Held i + (high_at i - low_at Held i)) high_at 8 refl r h

pub high_le : (mode : Mode) (r : ℕ) (m : Marks) → r < 8 → m ≡ marks_at mode r → m.low + m.high ≤ 4
unfolding marks_at every high_at
high_le mode r m h e = rw (e, low-high mode r h) (leb-true _ _ (every-at (λ (i : ℕ). leb (high_at i) 4) 8 r refl h))
