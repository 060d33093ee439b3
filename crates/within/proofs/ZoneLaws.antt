-- Below resolution 8 a value's bits are read off the value itself: scaled x step + (step + 1) grows with it, so it reaches a mark from one value on, and both
-- neighbours of each such value are computed, all rows together. Assumes nothing.
use mathlib.Core.Path.{◌≡◌, refl, sym, ap, ◌∙◌, subst}
use Prim.Native.Nat.{ℕ, zero, suc, ◌+◌, ◌-◌, ◌*◌, ◌≤◌, ◌<◌}
use native.Mathlib.Nat.{zero-mul, one-mul}
use native.Mathlib.Numerals.{add-one}
use native.Mathlib.Omega.{arith}
use mathlib.Core.Bool.{Bool, true, false, not, cond, ◌&&◌}
use borrow.Author.Tests.{leb-true, leb-false, ltb-true, eqb-true, eqb-false}
use lib.Dec.{T, ltb, leb, eqb}
use lib.IntN.{ℤ, pos, negsuc, neg_ℤ, ◌-ℤ◌}
use lib.Ieee.{Float, nan, inf, fin, binary32, of_bits, to_bits, fits, neg, add, mul, le, of_int, to_signed, is_nan}
use lib.Ieee.Bits.{is_true}
use lib.Ieee.Scale.{finite}
use lib.Ieee.Positive.{positive, le_trans_positive}
use lib.ListN.{get_or}
use Rattle.buffers.specs.Walk.{every}
use Rattle.buffers.proofs.Every.{every-at}
use Rattle.buffers.proofs.Tests.{and_fst, and_snd}
use Rattle.floats.specs.Single.{one_f}
use Rattle.rules.specs.Tables.{step_table}
use Rattle.rules.specs.Scaling.{clip}
use Rattle.rules.specs.Signed.{held_z}
use Rattle.rules.specs.Code.{step_of, step_shift, raw_code, limited_code}
use Rattle.rules.specs.Estimate.{value_bits}
use Rattle.rules.specs.declared.Mode.{Mode}
use Rattle.rules.specs.declared.Mode.TheVariants.{Held}
use Rattle.rules.proofs.Modes.{silent-bits}
use Rattle.quantizer.specs.Marks.{whole_f, near_at, far_at, past_at, high_at, low_at, drop_at, marks_at}
use Rattle.quantizer.proofs.Entries.{shift_low}
use Rattle.quantizer.proofs.Reaching.{whole_n, reaches_whole, value_counted, low-high}
use Rattle.within.specs.Within.{Within, within_b}
use Rattle.within.specs.Zones.{low_pattern, high_pattern, zone_low, zone_high, clip_past, zone_drop, reached_f}
use Rattle.within.proofs.WithinLaws.{Y, argument-short, argument_positive, argument_grows, held_in}
use Rattle.within.proofs.EdgeLaws.{Next, not_upper_lem, not_upper-below}

-- ---- a mark is reached from one value on
pub within-finite : (x : Float) → Within x → T (finite x)
within-finite x w = go x w.least w.most
  where
    go : (x : Float) → T (le (neg clip) x) → T (le x clip) → T (finite x)
    go nan a b = unfold le of_bits in absurd b
    go (inf true) a b = unfold le neg of_bits in absurd a
    go (inf false) a b = unfold le of_bits in absurd b
    go (fin t m e) a b = tt

pub within-number : (x : Float) → Within x → T (not (is_nan x))
unfolding is_nan
within-number x w = go x (within-finite x w)
  where
    go : (x : Float) → T (finite x) → T (not (is_nan x))
    go nan f = f
    go (inf s) f = tt
    go (fin t m e) f = tt

-- the value, and the one before it
record Edge (r : ℕ) (mark from before : Float) : Type 0 where
  mark_positive : T (positive mark)
  from-within : Within from
  before-within : Within before
  reaches : T (le mark (Y r from))
  fails : T (not (le mark (Y r before)))
  none : (v : Float) → T (fits binary32 v) → T (finite v) → (T (le from v) → ⊥) → T (le v before)

not-both : (b : Bool) → T b → T (not b) → ⊥
not-both true t n = n
not-both false t n = t

to_false : (b : Bool) → (T b → ⊥) → b ≡ false
to_false true f = absurd (f tt)
to_false false f = refl

reached_from : (r : ℕ) → r ≤ 15 → (mark from before : Float) → Edge r mark from before → (x : Float) → T (fits binary32 x) → Within x → le mark (Y r x)
    ≡ le from x
reached_from r h mark from before E x f w = go (le from x) refl
  where
    P : (z : Float) → Within z → T (positive (Y r z))
    P z v = argument_positive r h z v

    go : (b : Bool) → le from x ≡ b → le mark (Y r x) ≡ b
    go true e =
        is_true (le mark (Y r x))
        (le_trans_positive mark (Y r from) (Y r x) E.mark_positive (P from E.from-within) (P x w) E.reaches
        (argument_grows r h from x E.from-within w (subst T (sym e) tt)))
    go false e =
        to_false (le mark (Y r x))
        (λ t. not-both (le mark (Y r before))
        (le_trans_positive mark (Y r x) (Y r before) E.mark_positive (P x w) (P before E.before-within) t
        (argument_grows r h x before w E.before-within (E.none x f (within-finite x w) (λ u. subst T e u))))
        E.fails)

-- ---- the tests
true_is : {b : Bool} → b ≡ true → T b
true_is {b} e = subst T (sym e) tt

unfoldable next_b : (x y : Float) → Bool
next_b x y =
    (fits binary32 x && positive x && ltb (to_bits binary32 x) 2139095040)
    && ((fits binary32 y && positive y && ltb (to_bits binary32 y) 2139095040) && eqb (to_bits binary32 y) (to_bits binary32 x + 1))

are_next : (x y : Float) → next_b x y ≡ true → Next x y
unfolding next_b
are_next x y e =
    let a = and_fst (fits binary32 x && positive x && ltb (to_bits binary32 x) 2139095040) _ e in
    let b = and_snd (fits binary32 x && positive x && ltb (to_bits binary32 x) 2139095040) _ e in
    let c = and_fst (fits binary32 y && positive y && ltb (to_bits binary32 y) 2139095040) _ b in
    let d = and_snd (fits binary32 y && positive y && ltb (to_bits binary32 y) 2139095040) _ b in
    let a₁ = and_fst (fits binary32 x && positive x) _ a in
    let c₁ = and_fst (fits binary32 y && positive y) _ c in
    record {
      x_fits = true_is (and_fst (fits binary32 x) _ a₁);
      x_positive = true_is (and_snd (fits binary32 x) _ a₁);
      x_low = ltb-true _ _ (and_snd (fits binary32 x && positive x) _ a);
      y-fits = true_is (and_fst (fits binary32 y) _ c₁);
      y_positive = true_is (and_snd (fits binary32 y) _ c₁);
      y-low = ltb-true _ _ (and_snd (fits binary32 y && positive y) _ c);
      one = eqb-true _ _ d;
    }

pub is_within : (x : Float) → within_b x ≡ true → Within x
unfolding within_b
is_within x e = record { least = true_is (and_fst (le (neg clip) x) _ e); most = true_is (and_snd (le (neg clip) x) _ e) }

-- all but that no value lies between
unfoldable edge_b : (r : ℕ) (mark from before : Float) → Bool
edge_b r mark from before = (positive mark && (within_b from && within_b before)) && (le mark (Y r from) && not (le mark (Y r before)))

edge : (r : ℕ) (mark from before : Float) → edge_b r mark from before ≡ true
    → ((v : Float) → T (fits binary32 v) → T (finite v) → (T (le from v) → ⊥) → T (le v before)) → Edge r mark from before
unfolding edge_b
edge r mark from before e n =
    let a = and_fst (positive mark && (within_b from && within_b before)) _ e in
    let b = and_snd (positive mark && (within_b from && within_b before)) _ e in
    let c = and_snd (positive mark) _ a in
    record {
      mark_positive = true_is (and_fst (positive mark) _ a);
      from-within = is_within from (and_fst (within_b from) _ c);
      before-within = is_within before (and_snd (within_b from) _ c);
      reaches = true_is (and_fst (le mark (Y r from)) _ b);
      fails = true_is (and_snd (le mark (Y r from)) _ b);
      none = n;
    }

-- ---- near, from a value below zero on; far, from one above zero on
abbrev low_before : ℕ → Float
low_before r = of_bits binary32 (low_pattern r + 1)

abbrev high_before : ℕ → Float
high_before r = of_bits binary32 (high_pattern r - 1)

abbrev low_test : ℕ → Bool
low_test r = next_b (neg (zone_low r)) (neg (low_before r)) && edge_b r (whole_f (near_at r)) (zone_low r) (low_before r)

abbrev high_test : ℕ → Bool
high_test r = next_b (high_before r) (zone_high r) && edge_b r (whole_f (far_at r)) (zone_high r) (high_before r)

-- past: reached at the clip alone, or nowhere
abbrev clip_before : Float
clip_before = of_bits binary32 0x3F7FFFFD

abbrev past_test : ℕ → Bool
past_test r =
    cond (eqb (clip_past r) 0) (positive (whole_f (past_at r)) && not (le (whole_f (past_at r)) (Y r clip)))
    (eqb (clip_past r) 1 && (next_b clip_before clip && edge_b r (whole_f (past_at r)) clip clip_before))

all_edges : every (λ i. low_test (suc i) && (high_test (suc i) && past_test (suc i))) 7 ≡ true
unfolding every next_b within_b edge_b zone_low zone_high clip_past low_pattern high_pattern near_at far_at past_at step_of step_table of_bits to_bits fits neg add mul le
    of_int
all_edges = refl

all_past : every (λ i. eqb (past_at (suc i)) (2 * suc i + 2)) 7 ≡ true
unfolding every past_at
all_past = refl

clip-within : Within clip
unfolding within_b of_bits neg le
clip-within = is_within clip refl

-- ---- a row
module _ (i : ℕ) (h : i < 7) where
  abbrev r : ℕ
  r = suc i

  tested : (low_test r && (high_test r && past_test r)) ≡ true
  tested = every-at (λ k. low_test (suc k) && (high_test (suc k) && past_test (suc k))) 7 i all_edges h

  low_ok : low_test r ≡ true
  low_ok = and_fst (low_test r) _ tested

  high-ok : high_test r ≡ true
  high-ok = and_fst (high_test r) _ (and_snd (low_test r) _ tested)

  past-ok : past_test r ≡ true
  past-ok = and_snd (high_test r) _ (and_snd (low_test r) _ tested)

  few : r ≤ 15
  few = omega arith

  module _ (x : Float) (f : T (fits binary32 x)) (w : Within x) where
    pub near-from : le (whole_f (near_at r)) (Y r x) ≡ le (zone_low r) x
    near-from =
        reached_from r few (whole_f (near_at r)) (zone_low r) (low_before r)
        (edge r (whole_f (near_at r)) (zone_low r) (low_before r) (and_snd (next_b (neg (zone_low r)) (neg (low_before r))) _ low_ok)
        (not_upper-below (low_before r) (zone_low r) (are_next (neg (zone_low r)) (neg (low_before r))
        (and_fst (next_b (neg (zone_low r)) (neg (low_before r))) _ low_ok))))
        x f w

    pub far_from : le (whole_f (far_at r)) (Y r x) ≡ le (zone_high r) x
    far_from =
        reached_from r few (whole_f (far_at r)) (zone_high r) (high_before r)
        (edge r (whole_f (far_at r)) (zone_high r) (high_before r) (and_snd (next_b (high_before r) (zone_high r)) _ high-ok)
        (not_upper_lem (high_before r) (zone_high r) (are_next (high_before r) (zone_high r) (and_fst (next_b (high_before r) (zone_high r)) _ high-ok))))
        x f w

    never_past : (positive (whole_f (past_at r)) && not (le (whole_f (past_at r)) (Y r clip))) ≡ true → le (whole_f (past_at r)) (Y r x) ≡ false
    never_past e =
        to_false (le (whole_f (past_at r)) (Y r x))
        (λ t. not-both (le (whole_f (past_at r)) (Y r clip))
        (le_trans_positive (whole_f (past_at r)) (Y r x) (Y r clip) (true_is (and_fst (positive (whole_f (past_at r))) _ e)) (argument_positive r few x w)
        (argument_positive r few clip clip-within) t (argument_grows r few x clip w clip-within w.most))
        (true_is (and_snd (positive (whole_f (past_at r))) _ e)))

    past-from : (next_b clip_before clip && edge_b r (whole_f (past_at r)) clip clip_before) ≡ true → le (whole_f (past_at r)) (Y r x) ≡ le clip x
    past-from e =
        reached_from r few (whole_f (past_at r)) clip clip_before
        (edge r (whole_f (past_at r)) clip clip_before (and_snd (next_b clip_before clip) _ e)
        (not_upper_lem clip_before clip (are_next clip_before clip (and_fst (next_b clip_before clip) _ e))))
        x f w

    -- where the clip is not reached, past is not
    not-past : le clip x ≡ false → le (whole_f (past_at r)) (Y r x) ≡ false
    not-past u = go (eqb (clip_past r) 0) past-ok
      where
        go : (p : Bool) → cond p (positive (whole_f (past_at r)) && not (le (whole_f (past_at r)) (Y r clip)))
            (eqb (clip_past r) 1 && (next_b clip_before clip && edge_b r (whole_f (past_at r)) clip clip_before)) ≡ true
            → le (whole_f (past_at r)) (Y r x) ≡ false
        go true t = never_past t
        go false t = past-from (and_snd (eqb (clip_past r) 1) _ t) ∙ u

    -- and then the code is in its range, so that held mode changes nothing
    pub never_limited : le clip x ≡ false → limited_code Held r (raw_code r x) ≡ raw_code r x
    unfolding raw_code of_int
    never_limited u =
        let z : ℤ = to_signed 31 (Y r x) in
        let past : past_at r ≡ 2 * r + 2 = past_is in
        let one : le one_f (Y r x) ≡ true = is_true _ (argument-short r few x w).least in
        let low = leb-true 1 (whole_n z) (sym (reaches_whole 1 (Y r x) (omega arith) (omega arith)) ∙ one) in
        let high = leb-false (past_at r) (whole_n z) (sym (reaches_whole (past_at r) (Y r x) (omega arith) (omega arith)) ∙ not-past u) in
        let shift : step_shift r ≡ pos (suc r) = sym (shift_low r (omega arith)) ∙ ap pos (add-one r) in
        subst (λ s. held_z (neg_ℤ (pos r)) (pos r) (z -ℤ s) ≡ z -ℤ s) (sym shift) (in_range z low (omega arith))
      where
        past_is : past_at r ≡ 2 * r + 2
        past_is = eqb-true _ _ (every-at (λ k. eqb (past_at (suc k)) (2 * suc k + 2)) 7 i all_past h)

        in_range : (z : ℤ) → 1 ≤ whole_n z → whole_n z < 2 * r + 2 → held_z (neg_ℤ (pos r)) (pos r) (z -ℤ pos (suc r)) ≡ z -ℤ pos (suc r)
        in_range (pos n) a b = held_in r r n (suc r) (omega arith) (omega arith)
        in_range (negsuc n) a b = absurd (omega arith)

    -- what past drops, in a mode
    module _ (m : Mode) where
      drop-from : cond (le (whole_f (past_at r)) (Y r x)) (drop_at m r) 0 ≡ cond (le clip x) (zone_drop m r) 0
      drop-from = go (eqb (clip_past r) 0) refl past-ok
        where
          nothing : (b : Bool) (n : ℕ) → n ≡ 0 → cond b n 0 ≡ 0
          nothing true n e = e
          nothing false n e = refl

          none : clip_past r ≡ 0 → zone_drop m r ≡ 0
          none e = unfold zone_drop in rw e (zero-mul (drop_at m r))

          all : clip_past r ≡ 1 → drop_at m r ≡ zone_drop m r
          all e = unfold zone_drop in rw e (sym (one-mul (drop_at m r)))

          go : (p : Bool) → eqb (clip_past r) 0 ≡ p
              → cond p (positive (whole_f (past_at r)) && not (le (whole_f (past_at r)) (Y r clip)))
              (eqb (clip_past r) 1 && (next_b clip_before clip && edge_b r (whole_f (past_at r)) clip clip_before)) ≡ true
              → cond (le (whole_f (past_at r)) (Y r x)) (drop_at m r) 0 ≡ cond (le clip x) (zone_drop m r) 0
          go true e t = ap (λ b. cond b (drop_at m r) 0) (never_past t) ∙ sym (nothing (le clip x) (zone_drop m r) (none (eqb-true _ _ e)))
          go false e t =
              ap (λ n. cond (le (whole_f (past_at r)) (Y r x)) n 0) (all (eqb-true (clip_past r) 1 (and_fst (eqb (clip_past r) 1) _ t)))
              ∙ ap (λ b. cond b (zone_drop m r) 0) (past-from (and_snd (eqb (clip_past r) 1) _ t))

      row_counted : high_at r + reached_f (zone_high r) x ≡ value_bits m r x + (reached_f (zone_low r) x + cond (le clip x) (zone_drop m r) 0)
      unfolding marks_at of_int
      row_counted =
          let one : le one_f (Y r x) ≡ true = is_true _ (argument-short r few x w).least in
          let e = value_counted m r x (marks_at m r) (omega arith) refl in
          sym (ap (λ n. n + reached_f (zone_high r) x) (low-high m r (omega arith)))
          ∙ sym (ap (λ b. low_at m r + cond b (high_at r - low_at m r) 0 + reached_f (zone_high r) x) one)
          ∙ sym (ap (λ b. low_at m r + cond (le one_f (Y r x)) (high_at r - low_at m r) 0 + cond b 1 0) far_from)
          ∙ e
          ∙ ap (λ b. value_bits m r x + (cond b 1 0 + cond (le (whole_f (past_at r)) (Y r x)) (drop_at m r) 0)) near-from
          ∙ ap (λ n. value_bits m r x + (reached_f (zone_low r) x + n)) drop-from

-- ---- of a value within the clip: its most, one more from high on, one less from low on, and at the clip what is dropped there
pub zone_counted : (m : Mode) (r : ℕ) → r < 8 → (x : Float) → T (fits binary32 x) → Within x
    → high_at r + reached_f (zone_high r) x ≡ value_bits m r x + (reached_f (zone_low r) x + cond (le clip x) (zone_drop m r) 0)
zone_counted m zero h x f w = silent x
  where
    silent : (x : Float) → high_at 0 + reached_f (zone_high 0) x ≡ value_bits m 0 x + (reached_f (zone_low 0) x + cond (le clip x) (zone_drop m 0) 0)
    silent x = unfold high_at zone_high zone_low zone_drop clip_past high_pattern low_pattern in
        go (le (zone_high 0) x) (le clip x) (value_bits m 0 x) (0 * drop_at m 0) (silent-bits m x) (zero-mul (drop_at m 0))
      where
        go : (b c : Bool) (v d : ℕ) → v ≡ 0 → d ≡ 0 → 0 + cond b 1 0 ≡ v + (cond b 1 0 + cond c d 0)
        go true true v d e q = omega arith
        go true false v d e q = omega arith
        go false true v d e q = omega arith
        go false false v d e q = omega arith
zone_counted m (suc i) h x f w = row_counted i (omega arith) x f w m
