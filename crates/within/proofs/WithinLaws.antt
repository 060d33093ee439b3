-- Within the clip, scaled x step + (step + 1) lies from 1 up to below 4,096, and no code is held: it grows with the scaled value, and the two ends are computed
-- for each resolution. Assumes nothing.
use mathlib.Core.Path.{◌≡◌, refl, sym, ap, ◌∙◌, subst}
use Prim.Native.Nat.{ℕ, zero, suc, ◌+◌, ◌-◌, ◌*◌, ◌/◌, ◌≤◌, ◌<◌, min, zero-le}
use native.Mathlib.Nat.{le_of_eq, mul-one, mul_right_comm, lt_of_le_of_lt, lt_of_lt_of_le, lt_of_mul-lt-mul_right, mul-lt-mul_of_pos_right, div-lt_iff_lt-mul}
use native.Mathlib.Omega.{arith}
use mathlib.Core.Bool.{Bool, true, false, not, ◌&&◌, cond}
use borrow.Author.Tests.{le-ltb}
use lib.Dec.{T, leb, ltb, leb→le, ltb→lt, lt→ltb, nltb→le}
use lib.IntN.{ℤ, pos, negsuc, neg_ℤ, ◌-ℤ◌, nat_abs}
use lib.Ieee.{Float, nan, inf, fin, up, down, neg, add, mul, lt, le, of_bits, to_signed}
use lib.Ieee.Fits.{and_l, and_r, down_pos}
use lib.Ieee.Nearest.{div_mono}
use lib.Ieee.Positive.{num, den, den_pos, positive, le→cross, between, le_trans_positive}
use Rattle.buffers.specs.Walk.{every}
use Rattle.buffers.proofs.Every.{every-at}
use Rattle.rules.specs.Tables.{step_table, max_bit_table}
use Rattle.rules.specs.Scaling.{clip}
use Rattle.rules.specs.Signed.{held_z}
use Rattle.rules.specs.Code.{step_of, step_shift, raw_code, code_of, code_limit, magnitude_bits}
use Rattle.rules.specs.declared.Mode.TheVariants.{Rust}
use Rattle.quantizer.proofs.Entries.{shift_nat}
use Rattle.floats.specs.Single.{Short}
use Rattle.within.specs.Within.{Within}
use Rattle.within.proofs.MonoLaws.{ok_step, good, argument, argument-mono, le→ord}

-- the clip and its negation, as numbers
abbrev pub top : Float
top = fin false 8388607 (negsuc 22)

abbrev pub bottom : Float
bottom = fin true 8388607 (negsuc 22)

pub top-is : clip ≡ top
unfolding of_bits
top-is = refl

pub bottom-is : neg clip ≡ bottom
unfolding of_bits neg
bottom-is = refl

-- ---- the two ends, for each resolution
abbrev pub Y : ℕ → Float → Float
Y r x = argument (step_of r) x

-- the code's range: from - under r to over r
abbrev under : ℕ → ℕ
under r = cond (ltb r 8) 8 (code_limit r)

abbrev over : ℕ → ℕ
over r = cond (ltb r 8) 7 (code_limit r)

unfoldable ends : ℕ → Bool
ends r =
    ok_step (step_of r) && (positive (Y r bottom) && (positive (Y r top) && (le (fin false 1 (pos 0)) (Y r bottom) && (ltb (num (Y r top)) (4096 * den (Y r top))
    && (leb (nat_abs (step_shift r)) (num (Y r bottom) / den (Y r bottom) + under r) && leb (num (Y r top) / den (Y r top)) (nat_abs (step_shift r) + over r))))))

all-ends : every ends 16 ≡ true
unfolding every ends ok_step good step_of step_shift step_table code_limit magnitude_bits max_bit_table of_bits to_signed add mul le
all-ends = refl

record Ends (r : ℕ) : Type 0 where
  step : T (ok_step (step_of r))
  low-pos : T (positive (Y r bottom))
  high-pos : T (positive (Y r top))
  low-one : T (le (fin false 1 (pos 0)) (Y r bottom))
  high-short : num (Y r top) < 4096 * den (Y r top)
  low_code : nat_abs (step_shift r) ≤ num (Y r bottom) / den (Y r bottom) + under r
  high_code : num (Y r top) / den (Y r top) ≤ nat_abs (step_shift r) + over r

ends_at : (r : ℕ) → r ≤ 15 → Ends r
unfolding ends
ends_at r h =
    let A = ok_step (step_of r) in
    let B = positive (Y r bottom) in
    let C = positive (Y r top) in
    let D = le (fin false 1 (pos 0)) (Y r bottom) in
    let E = ltb (num (Y r top)) (4096 * den (Y r top)) in
    let F = leb (nat_abs (step_shift r)) (num (Y r bottom) / den (Y r bottom) + under r) in
    let G = leb (num (Y r top) / den (Y r top)) (nat_abs (step_shift r) + over r) in
    let a : T (A && (B && (C && (D && (E && (F && G)))))) = subst T (sym (every-at ends 16 r all-ends (omega arith))) tt in
    let b = and_r A (B && (C && (D && (E && (F && G))))) a in
    let c = and_r B (C && (D && (E && (F && G)))) b in
    let d = and_r C (D && (E && (F && G))) c in
    let e = and_r D (E && (F && G)) d in
    let f = and_r E (F && G) e in
    record {
      step = and_l A (B && (C && (D && (E && (F && G))))) a;
      low-pos = and_l B (C && (D && (E && (F && G)))) b;
      high-pos = and_l C (D && (E && (F && G))) c;
      low-one = and_l D (E && (F && G)) d;
      high-short = ltb→lt (num (Y r top)) (4096 * den (Y r top)) (and_l E (F && G) e);
      low_code = leb→le (nat_abs (step_shift r)) (num (Y r bottom) / den (Y r bottom) + under r) (and_l F G f);
      high_code = leb→le (num (Y r top) / den (Y r top)) (nat_abs (step_shift r) + over r) (and_r F G f);
    }

-- ---- between the ends
less_than_one : (X D : ℕ) → X * 8388608 ≤ 8388607 * D → X ≤ D
less_than_one X D h = omega arith

small : (t : Bool) (m : ℕ) (e : ℤ) → T (le bottom (fin t m e)) → T (le (fin t m e) top) → m * up e ≤ down e
small true m e l h = less_than_one (m * up e) (down e) (le→ord true true 8388607 (negsuc 22) m e l)
small false m e l h = less_than_one (m * up e) (down e) (le→ord false false m e 8388607 (negsuc 22) h)

module _ (r : ℕ) (E : Ends r) where
  inside : (x : Float) → T (le bottom x) → T (le x top) → T (le (Y r bottom) (Y r x)) × T (le (Y r x) (Y r top))
  unfolding le
  inside nan l h = absurd h
  inside (inf true) l h = absurd l
  inside (inf false) l h = absurd h
  inside (fin t m e) l h = (
    argument-mono (step_of r) E.step true t 8388607 (negsuc 22) m e (omega arith) (small t m e l h) l,
    argument-mono (step_of r) E.step t false m e 8388607 (negsuc 22) (small t m e l h) (omega arith) h,
  )

  module _ (x : Float) (w : Within x) where
    at : T (le (Y r bottom) (Y r x)) × T (le (Y r x) (Y r top))
    at = inside x (subst (λ (y : Float). T (le y x)) bottom-is w.least) (subst (λ (y : Float). T (le x y)) top-is w.most)

    y-pos : T (positive (Y r x))
    y-pos = between (Y r bottom) (Y r x) (Y r top) E.low-pos E.high-pos at.0 at.1

    from_low : num (Y r bottom) * den (Y r x) ≤ num (Y r x) * den (Y r bottom)
    from_low = le→cross (Y r bottom) (Y r x) E.low-pos y-pos at.0

    to_high : num (Y r x) * den (Y r top) ≤ num (Y r top) * den (Y r x)
    to_high = le→cross (Y r x) (Y r top) y-pos E.high-pos at.1

    y-short : num (Y r x) < 4096 * den (Y r x)
    y-short =
        lt_of_mul-lt-mul_right (den (Y r top))
        (lt_of_le_of_lt to_high
        (lt_of_lt_of_le (mul-lt-mul_of_pos_right E.high-short (den_pos (Y r x))) (le_of_eq (mul_right_comm 4096 (den (Y r top)) (den (Y r x))))))

    -- the truncated number lies between those of the ends
    code_from : nat_abs (step_shift r) ≤ num (Y r x) / den (Y r x) + under r
    code_from = omega (
      arith,
      E.low_code,
      div_mono (num (Y r bottom)) (den (Y r bottom)) (num (Y r x)) (den (Y r x)) (den_pos (Y r bottom)) (den_pos (Y r x))
          from_low,
    )

    code_to : num (Y r x) / den (Y r x) ≤ nat_abs (step_shift r) + over r
    code_to = omega (arith, E.high_code, div_mono (num (Y r x)) (den (Y r x)) (num (Y r top)) (den (Y r top)) (den_pos (Y r x)) (den_pos (Y r top)) to_high)

below_4096 : (y : Float) → T (positive y) → num y < 4096 * den y → T (lt y (fin false 1 (pos 12)))
unfolding lt
below_4096 nan p h = absurd p
below_4096 (inf s) p h = absurd p
below_4096 (fin true m e) p h = absurd p
below_4096 (fin false m e) p h = lt→ltb (m * up e * 1) (4096 * down e) (subst (λ (n : ℕ). n < 4096 * down e) (sym (mul-one (m * up e))) h)

-- the quantiser's argument, for a value that was held
pub argument-short : (r : ℕ) → r ≤ 15 → (x : Float) → Within x → Short (argument (step_of r) x)
argument-short r h x w =
    let E = ends_at r h in
    record {
      least = le_trans_positive (fin false 1 (pos 0)) (Y r bottom) (Y r x) tt E.low-pos (y-pos r E x w) E.low-one (at r E x w).0;
      most = below_4096 (Y r x) (y-pos r E x w) (y-short r E x w);
    }

-- it is positive, and grows with the value
pub argument_positive : (r : ℕ) → r ≤ 15 → (x : Float) → Within x → T (positive (Y r x))
argument_positive r h x w = y-pos r (ends_at r h) x w

pub argument_grows : (r : ℕ) → r ≤ 15 → (x z : Float) → Within x → Within z → T (le x z) → T (le (Y r x) (Y r z))
argument_grows r h x z w v l =
    go x z (subst (λ (y : Float). T (le y x)) bottom-is w.least) (subst (λ (y : Float). T (le x y)) top-is w.most)
    (subst (λ (y : Float). T (le y z)) bottom-is v.least) (subst (λ (y : Float). T (le z y)) top-is v.most) l
  where
    go : (x z : Float) → T (le bottom x) → T (le x top) → T (le bottom z) → T (le z top) → T (le x z) → T (le (Y r x) (Y r z))
    go nan z a b c d l = unfold le in absurd b
    go (inf true) z a b c d l = unfold le in absurd a
    go (inf false) z a b c d l = unfold le in absurd b
    go (fin t m e) nan a b c d l = unfold le in absurd d
    go (fin t m e) (inf true) a b c d l = unfold le in absurd c
    go (fin t m e) (inf false) a b c d l = unfold le in absurd d
    go (fin t m e) (fin u n f) a b c d l = argument-mono (step_of r) (ends_at r h).step t u m e n f (small t m e a b) (small u n f c d) l

-- ---- no code is held
pub cut_is : (y : Float) → T (positive y) → num y < 4096 * den y → to_signed 31 y ≡ pos (num y / den y)
unfolding to_signed
cut_is nan p h = absurd p
cut_is (inf s) p h = absurd p
cut_is (fin true m e) p h = absurd p
cut_is (fin false m e) p h = ap pos (uncapped (m * up e / down e) ((div-lt_iff_lt-mul (down_pos e)).1 h))
  where
    uncapped : (n : ℕ) → n < 4096 → min n 2147483647 ≡ n
    uncapped n h = omega arith

held-pos : (p q n : ℕ) → n ≤ q → held_z (neg_ℤ (pos p)) (pos q) (pos n) ≡ pos n
unfolding held_z
held-pos zero q n h = rw (le-ltb n 0 zero-le, le-ltb q n h)
held-pos (suc p) q n h = rw (le-ltb q n h)

held-neg : (p q n : ℕ) → suc n ≤ p → held_z (neg_ℤ (pos p)) (pos q) (negsuc n) ≡ negsuc n
unfolding held_z
held-neg zero q n h = absurd (none n h)
  where
    none : (n : ℕ) → suc n ≤ 0 → ⊥
    none n h = omega arith
held-neg (suc p) q n h = let k : n ≤ p = omega arith in rw (le-ltb p n k)

pub held_in : (p q a s : ℕ) → s ≤ a + p → a ≤ s + q → held_z (neg_ℤ (pos p)) (pos q) (pos a -ℤ pos s) ≡ pos a -ℤ pos s
held_in p q a zero h k = held-pos p q (a + 0) (omega arith)
held_in p q a (suc s) h k = go (ltb a (suc s)) (ltb→lt a (suc s)) (nltb→le a (suc s))
  where
    go : (t : Bool) → (T t → a < suc s) → (T (not t) → suc s ≤ a) → held_z (neg_ℤ (pos p)) (pos q) (cond t (negsuc (suc s - suc a)) (pos (a - suc s)))
        ≡ cond t (negsuc (suc s - suc a)) (pos (a - suc s))
    go true f g = let b = f tt in held-neg p q (suc s - suc a) (omega arith)
    go false f g = let b = g tt in held-pos p q (a - suc s) (omega arith)

either_range : (b : Bool) (L : ℕ) (z : ℤ) → held_z (neg_ℤ (pos (cond b 8 L))) (pos (cond b 7 L)) z ≡ z
    → cond b (held_z (negsuc 7) (pos 7) z) (held_z (neg_ℤ (pos L)) (pos L) z) ≡ z
either_range true L z e = e
either_range false L z e = e

-- in the Rust's mode
pub never_held : (r : ℕ) → r ≤ 15 → (x : Float) → Within x → code_of Rust r x ≡ raw_code r x
unfolding code_of raw_code
never_held r h x w =
    let E = ends_at r h in
    let a = num (Y r x) / den (Y r x) in
    let s = nat_abs (step_shift r) in
    let z : raw_code r x ≡ pos a -ℤ pos s = ap (λ (n : ℤ). n -ℤ step_shift r) (cut_is (Y r x) (y-pos r E x w) (y-short r E x w))
    ∙ ap (λ (n : ℤ). pos a -ℤ n) (shift_nat r h).0 in
    either_range (ltb r 8) (code_limit r) (raw_code r x)
    (subst (λ (n : ℤ). held_z (neg_ℤ (pos (under r))) (pos (over r)) n ≡ n) (sym z) (held_in (under r) (over r) a s (code_from r E x w) (code_to r E x w)))
