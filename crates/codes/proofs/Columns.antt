-- Within the clip a code by its column is the rules' code, in both modes: what is truncated lies from 1 up to below 4,096, and the most that is truncated acts
-- as the upper end does. The lower end is never passed. Assumes nothing.
use mathlib.Core.Path.{◌≡◌, refl, sym, ap, ap₂, ◌∙◌, subst}
use mathlib.Core.Bool.{Bool, true, false, not, cond}
use Prim.Native.Nat.{ℕ, suc, ◌+◌, ◌-◌, ◌*◌, ◌/◌, ◌≤◌, ◌<◌, min}
use native.Mathlib.Nat.{div-lt_iff_lt-mul, le-div_iff_mul-le}
use native.Mathlib.Omega.{arith}
use borrow.Author.Tests.{eqb-true, le-ltb, ltb-true, ltb-false, leb-true}
use lib.Dec.{T, eqb, ltb, leb, lt→ltb, ltb→lt}
use lib.IntN.{ℤ, pos, negsuc, neg_ℤ, ◌-ℤ◌, nat_abs}
use lib.Ieee.{Float, nan, inf, fin, binary32, up, down, add, lt, of_bits, to_bits, to_signed, is_nan}
use lib.Ieee.Bits.{is_true}
use lib.Ieee.Fits.{down_pos}
use lib.Ieee.Positive.{num, den, den_pos, positive, le→cross, cross→le}
use Rattle.buffers.specs.Walk.{build, every}
use Rattle.buffers.proofs.Every.{every-at}
use Rattle.floats.specs.Single.{one_f, min_f, Short}
use Rattle.rules.specs.Tables.{step_table, max_bit_table}
use Rattle.rules.specs.Signed.{held_z}
use Rattle.rules.specs.Code.{step_of, step_shift, raw_code, code_of, code_limit, magnitude_bits, recorded_code}
use Rattle.rules.specs.declared.Mode.{Mode}
use Rattle.rules.specs.declared.Mode.TheVariants.{Rust, Held}
use Rattle.rules.proofs.Modes.{held-within}
use Rattle.quantizer.proofs.Entries.{build_agrees, shift_nat}
use Rattle.quantizer.proofs.Signs.{held-few, held-above}
use Rattle.within.specs.Within.{Within}
use Rattle.within.proofs.WithinLaws.{Y, argument-short, argument_positive, never_held, cut_is, held_in}
use Rattle.codes.specs.Columns.{column_of, top_of, column_at, cut_by, code_by, Based}

-- ---- the upper end of a range, and the tables' rules of it: each one computed test
abbrev reach : ℕ → ℕ
reach r = cond (ltb r 8) r (code_limit r)

shift_is : (r : ℕ) → r ≤ 15 → step_shift r ≡ pos (suc (reach r))
unfolding build step_shift step_of step_table code_limit magnitude_bits max_bit_table of_bits to_signed add
shift_is r h = build_agrees step_shift (λ (i : ℕ). pos (suc (reach i))) 16 refl r (omega arith)

-- a whole number from 1 up
abbrev whole : ℕ → Float
whole k = fin false (suc k) (pos 0)

twice_is : (r : ℕ) → r ≤ 15 → add binary32 (step_of r) (step_of r) ≡ whole (2 * reach r)
unfolding build step_of step_table code_limit magnitude_bits max_bit_table of_bits add
twice_is r h = build_agrees (λ (i : ℕ). add binary32 (step_of i) (step_of i)) (λ (i : ℕ). whole (2 * reach i)) 16 refl r (omega arith)

reach-small : (r : ℕ) → r ≤ 15 → reach r ≤ 2047
unfolding every code_limit magnitude_bits max_bit_table
reach-small r h = leb-true _ _ (every-at (λ (i : ℕ). leb (reach i) 2047) 16 r refl (omega arith))

-- the bits that stand for code 0
abbrev zero_f : ℕ → Float
zero_f r = add binary32 (add binary32 (step_of r) (of_bits binary32 0x3F000000)) (of_bits binary32 0x4B000000)

pub zero_number : (r : ℕ) → r ≤ 15 → T (not (is_nan (zero_f r)))
unfolding every step_of step_table of_bits add is_nan
zero_number r h = subst T (sym (every-at (λ (i : ℕ). not (is_nan (zero_f i))) 16 r refl (omega arith))) tt

zero_bits : (r : ℕ) → r ≤ 15 → to_bits binary32 (zero_f r) ≡ 0x4B000000 + nat_abs (step_shift r)
unfolding build step_shift step_of step_table of_bits to_bits to_signed add
zero_bits r h = build_agrees (λ (i : ℕ). to_bits binary32 (zero_f i)) (λ (i : ℕ). 0x4B000000 + nat_abs (step_shift i)) 16 refl r (omega arith)

pub column_made : (m : Mode) (r : ℕ) → r ≤ 15 → (step top : Float) → step ≡ step_of r → top ≡ top_of m r step
    → column_of step top (to_bits binary32 (add binary32 (add binary32 step (of_bits binary32 0x3F000000)) (of_bits binary32 0x4B000000))) ≡ column_at m r
unfolding column_at
column_made m r h step top p q = rw (q, p, zero_bits r h)

-- ---- the less of a number and a whole one, truncated
module _ (k : ℕ) (small : suc k < 4096) where
  whole_cut : to_signed 31 (whole k) ≡ pos (suc k)
  unfolding to_signed
  whole_cut = ap pos (uncapped k small)
    where
      uncapped : (k : ℕ) → suc k < 4096 → min (suc k * 1 / 1) 2147483647 ≡ suc k
      uncapped k h = omega arith

  less_cut : (y : Float) → T (positive y) → num y < 4096 * den y → to_signed 31 (min_f (whole k) y) ≡ pos (min (num y / den y) (suc k))
  less_cut nan p h = absurd p
  less_cut (inf s) p h = absurd p
  less_cut (fin true m e) p h = absurd p
  less_cut (fin false m e) p h = unfold min_f lt in go (ltb (m * up e * 1) (suc k * 1 * down e)) refl
    where
      go : (t : Bool) → ltb (m * up e * 1) (suc k * 1 * down e) ≡ t → to_signed 31 (cond t (fin false m e) (whole k)) ≡ pos (min (m * up e / down e) (suc k))
      go true q =
          let l : m * up e < suc k * down e = omega (arith, ltb-true (m * up e * 1) (suc k * 1 * down e) q) in
          let a : m * up e / down e < suc k = (div-lt_iff_lt-mul (down_pos e)).1 l in
          cut_is (fin false m e) p h ∙ ap pos (omega arith)
      go false q =
          let l : suc k * down e ≤ m * up e = omega (arith, ltb-false (m * up e * 1) (suc k * 1 * down e) q) in
          let a : suc k ≤ m * up e / down e = (le-div_iff_mul-le (down_pos e)).1 l in
          whole_cut ∙ ap pos (omega arith)

  less_short : (y : Float) → Short y → Short (min_f (whole k) y)
  unfolding min_f
  less_short y h = go (lt y (whole k))
    where
      go : (t : Bool) → Short (cond t y (whole k))
      go true = h
      go false = record {
        least = cross→le one_f (whole k) tt (lt→ltb 0 (suc k) (omega arith)) (omega arith);
        most = unfold lt in lt→ltb (suc k * 1 * 1) (4096 * 1) (omega arith);
      }

-- ---- what is held within plus or minus e, of a number from 1 up less e + 1
held_cut : (a e : ℕ) → 1 ≤ a → held_z (neg_ℤ (pos e)) (pos e) (pos a -ℤ pos (suc e)) ≡ pos (min a (suc (2 * e))) -ℤ pos (suc e)
held_cut a e h = go (ltb (suc (2 * e)) a) refl
  where
    go : (t : Bool) → ltb (suc (2 * e)) a ≡ t → held_z (neg_ℤ (pos e)) (pos e) (pos a -ℤ pos (suc e)) ≡ pos (min a (suc (2 * e))) -ℤ pos (suc e)
    go true q =
        let l : suc (2 * e) < a = ltb-true (suc (2 * e)) a q in
        let n : min a (suc (2 * e)) ≡ suc (2 * e) = omega arith in
        let u : suc e ≤ a = omega arith in
        let v : suc e ≤ suc (2 * e) = omega arith in
        rw (n, le-ltb a (suc e) u, le-ltb (suc (2 * e)) (suc e) v) (held-above e (a - suc e) (omega arith) ∙ ap pos (omega arith))
    go false q =
        let l : a ≤ suc (2 * e) = ltb-false (suc (2 * e)) a q in
        let n : min a (suc (2 * e)) ≡ a = omega arith in
        rw n (held_in e e a (suc e) (omega arith) (omega arith))

held_code : (r : ℕ) (x : Float) → code_of Held r x ≡ held_z (neg_ℤ (pos (reach r))) (pos (reach r)) (raw_code r x)
unfolding code_of
held_code r x = go (ltb r 8) refl
  where
    go : (t : Bool) → ltb r 8 ≡ t
        → cond t (held_z (negsuc 7) (pos 7) (held_z (neg_ℤ (pos r)) (pos r) (raw_code r x))) (held_z (neg_ℤ (pos (code_limit r))) (pos (code_limit r)) (raw_code r x))
        ≡ held_z (neg_ℤ (pos (cond t r (code_limit r)))) (pos (cond t r (code_limit r))) (raw_code r x)
    go true q = let h = ltb-true r 8 q in held-few (held_z (neg_ℤ (pos r)) (pos r) (raw_code r x)) (omega (arith, held-within r (raw_code r x)))
    go false q = refl

-- ---- of a scaled value
under_4096 : (y : Float) → T (positive y) → T (lt y (fin false 1 (pos 12))) → num y < 4096 * den y
unfolding lt
under_4096 nan p l = absurd p
under_4096 (inf s) p l = absurd p
under_4096 (fin true m e) p l = absurd p
under_4096 (fin false m e) p l = omega (arith, ltb→lt (m * up e * 1) (4096 * down e) l)

module _ (r : ℕ) (h : r ≤ 15) (x : Float) (w : Within x) where
  abbrev y : Float
  y = Y r x

  abbrev a : ℕ
  a = num y / den y

  y-pos : T (positive y)
  y-pos = argument_positive r h x w

  y-short : Short y
  y-short = argument-short r h x w

  y-below : num y < 4096 * den y
  y-below = under_4096 y y-pos y-short.most

  from_one : 1 ≤ a
  from_one = (le-div_iff_mul-le (den_pos y)).1 (omega (arith, le→cross one_f y tt y-pos y-short.least))

  raw_is : raw_code r x ≡ pos a -ℤ pos (suc (reach r))
  unfolding raw_code
  raw_is = ap₂ (λ (n s : ℤ). n -ℤ s) (cut_is y y-pos y-below) (shift_is r h)

  small : suc (2 * reach r) < 4096
  small = omega (arith, reach-small r h)

  -- at resolution 0
  none_is : to_signed 31 (min_f one_f y) -ℤ pos 1 ≡ pos 0
  none_is = let n : min a 1 ≡ 1 = omega (arith, from_one) in ap (λ (z : ℤ). z -ℤ pos 1) (less_cut 0 (omega arith) y y-pos y-below ∙ ap pos n)

  held-is : to_signed 31 (min_f (add binary32 (step_of r) (step_of r)) y) -ℤ pos (suc (reach r)) ≡ code_of Held r x
  held-is =
      ap (λ (t : Float). to_signed 31 (min_f t y) -ℤ pos (suc (reach r))) (twice_is r h)
      ∙ ap (λ (z : ℤ). z -ℤ pos (suc (reach r))) (less_cut (2 * reach r) small y y-pos y-below)
      ∙ sym (held_cut a (reach r) from_one)
      ∙ ap (held_z (neg_ℤ (pos (reach r))) (pos (reach r))) (sym raw_is) ∙ sym (held_code r x)

  rust_is : to_signed 31 (min_f (fin false 1 (pos 12)) y) -ℤ pos (suc (reach r)) ≡ code_of Rust r x
  unfolding min_f
  rust_is =
      rw (is_true (lt y (fin false 1 (pos 12))) y-short.most) (ap (λ (z : ℤ). z -ℤ pos (suc (reach r))) (cut_is y y-pos y-below) ∙ sym raw_is
      ∙ sym (never_held r h x w))

  zero_is : 0x4B000000 + nat_abs (step_shift r) - 0x4B000000 ≡ suc (reach r)
  zero_is = let n : nat_abs (step_shift r) ≡ suc (reach r) = ap nat_abs (shift_is r h) in omega arith

  pub column_code : (m : Mode) → code_by (column_at m r) x ≡ recorded_code m r x
  unfolding code_by cut_by column_at recorded_code
  column_code m = rw zero_is (go m (eqb r 0) refl)
    where
      go : (m : Mode) (t : Bool) → eqb r 0 ≡ t
          → to_signed 31 (min_f (top_of m r (step_of r)) y) -ℤ pos (suc (reach r)) ≡ cond t (pos 0) (code_of m r x)
      go Rust true e =
          ap₂ (λ (t : Bool) (n : ℕ). to_signed 31 (min_f (cond t one_f (fin false 1 (pos 12))) y) -ℤ pos (suc n)) e (ap reach (eqb-true r 0 e)) ∙ none_is
      go Rust false e = ap (λ (t : Bool). to_signed 31 (min_f (cond t one_f (fin false 1 (pos 12))) y) -ℤ pos (suc (reach r))) e ∙ rust_is
      go Held true e =
          let z : reach r ≡ 0 = ap reach (eqb-true r 0 e) in
          ap₂ (λ (t : Float) (n : ℕ). to_signed 31 (min_f t y) -ℤ pos (suc n)) (twice_is r h ∙ ap (λ (n : ℕ). whole (2 * n)) z) z ∙ none_is
      go Held false e = held-is

  pub column_short : (m : Mode) → Short (cut_by (column_at m r) x)
  unfolding cut_by column_at
  column_short Rust = go (eqb r 0)
    where
      go : (t : Bool) → Short (min_f (cond t one_f (fin false 1 (pos 12))) y)
      go true = less_short 0 (omega arith) y y-short
      go false = unfold min_f in rw (is_true (lt y (fin false 1 (pos 12))) y-short.most) y-short
  column_short Held = subst (λ (t : Float). Short (min_f t y)) (sym (twice_is r h)) (less_short (2 * reach r) small y y-short)

  pub column_based : (m : Mode) → Based (column_at m r)
  unfolding column_at
  column_based m = record { least = omega arith; most = omega (arith, (shift_nat r h).1) }
