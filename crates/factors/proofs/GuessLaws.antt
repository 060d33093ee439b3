-- The guess from a value's bits is its factor or one less: it grows with the bits, and two computed tests an entry. Assumes nothing.
use mathlib.Core.Path.{◌≡◌, refl, sym, ◌∙◌, subst}
use mathlib.Core.Logic.{◌⊎◌, inl, inr}
use mathlib.Core.List.{List, [], ◌∷◌}
use Prim.Native.Nat.{ℕ, zero, suc, ◌+◌, ◌-◌, ◌*◌, ◌≤◌, ◌<◌, zero-le}
use native.Mathlib.Nat.{not-suc-le-zero, le_of_suc-le-suc, eq-or-lt_of_le, add-zero}
use native.Mathlib.Omega.{arith}
use mathlib.Core.Bool.{Bool, true, false, ◌&&◌, ◌||◌, cond}
use lib.Dec.{T, leb, ltb, leb→le, ltb→lt}
use lib.ListN.{length, get_or, take}
use lib.Seq.{get_or-take}
use lib.Ieee.{Float, nan, binary32, lt, le, eq, of_bits, to_bits, fits}
use lib.Ieee.Bits.{is_true}
use lib.Ieee.Fits.{and_l, and_r, cond-fits}
use lib.Ieee.Positive.{num, den, positive, above, above_of_le}
use Rattle.floats.specs.Single.{max_f}
use Rattle.rules.specs.Tables.{scaling_table}
use Rattle.rules.specs.Factor.{count_le, factor_of}
use Rattle.rules.proofs.Made.{factor_le}
use Rattle.factors.proofs.Count.{entry_at-most, entry-above}
use Rattle.factors.specs.Guess.{guess_of}
use Rattle.factors.proofs.OrderLaws.{le-of_bits, bits_of-le, lt_through, not-above}

-- ---- the guess grows with the bits
pub guess_mono : (a b : ℕ) → a ≤ b → guess_of a ≤ guess_of b
unfolding guess_of
guess_mono a b h = omega arith

pub guess_le : (b : ℕ) → guess_of b ≤ 62
unfolding guess_of
guess_le b = omega arith

-- ---- the k-th entry: its own guess is k at least, and that of the pattern before it k at most
unfoldable ok : ℕ → Float → Bool
ok k x =
    fits binary32 x
    && (positive x && (ltb (to_bits binary32 x) 2139095040 && (leb k (guess_of (to_bits binary32 x)) && leb (guess_of (to_bits binary32 x - 1)) k)))

unfoldable all-ok : ℕ → List Float → Bool
all-ok k [] = true
all-ok k (x ∷ xs) = ok k x && all-ok (suc k) xs

table-ok : T (all-ok 0 (take 63 scaling_table))
unfolding all-ok ok scaling_table of_bits to_bits fits guess_of
table-ok = tt

record Entry (k : ℕ) (x : Float) : Type 0 where
  fine : T (fits binary32 x)
  pos : T (positive x)
  low : to_bits binary32 x < 2139095040
  own : k ≤ guess_of (to_bits binary32 x)
  before : guess_of (to_bits binary32 x - 1) ≤ k

entry : (k : ℕ) (x : Float) → T (ok k x) → Entry k x
unfolding ok
entry k x t =
    let A = fits binary32 x in
    let B = positive x in
    let C = ltb (to_bits binary32 x) 2139095040 in
    let D = leb k (guess_of (to_bits binary32 x)) in
    let E = leb (guess_of (to_bits binary32 x - 1)) k in
    let u = and_r A (B && (C && (D && E))) t in
    let w = and_r B (C && (D && E)) u in
    let y = and_r C (D && E) w in
    record {
      fine = and_l A (B && (C && (D && E))) t;
      pos = and_l B (C && (D && E)) u;
      low = ltb→lt (to_bits binary32 x) 2139095040 (and_l C (D && E) w);
      own = leb→le k (guess_of (to_bits binary32 x)) (and_l D E y);
      before = leb→le (guess_of (to_bits binary32 x - 1)) k (and_r D E y);
    }

entry_at_lem : (xs : List Float) (k i : ℕ) → T (all-ok k xs) → i < length xs → Entry (k + i) (get_or xs i nan)
unfolding all-ok
entry_at_lem [] k i t h = absurd (not-suc-le-zero h)
entry_at_lem (x ∷ xs) k zero t h = subst (λ (n : ℕ). Entry n x) (sym (add-zero k)) (entry k x (and_l (ok k x) (all-ok (suc k) xs) t))
entry_at_lem (x ∷ xs) k (suc i) t h =
    subst (λ (n : ℕ). Entry n (get_or xs i nan)) (shift k i) (entry_at_lem xs (suc k) i (and_r (ok k x) (all-ok (suc k) xs) t) (le_of_suc-le-suc h))
  where
    shift : (k i : ℕ) → suc k + i ≡ k + suc i
    shift k i = omega arith

table-entry : (k : ℕ) → k < 63 → Entry k (get_or scaling_table k nan)
unfolding scaling_table
table-entry k h =
    subst (λ (x : Float). Entry k x) (get_or-take 63 scaling_table k nan h)
    (subst (λ (n : ℕ). Entry n (get_or (take 63 scaling_table) k nan)) (zero-plus k) (entry_at_lem (take 63 scaling_table) 0 k table-ok h))
  where
    zero-plus : (k : ℕ) → 0 + k ≡ k
    zero-plus k = omega arith

-- ---- a value above zero
module _ (v : Float) (f : T (fits binary32 v)) (t : T (above v)) where
  abbrev b : ℕ
  b = to_bits binary32 v

  abbrev g : ℕ
  g = guess_of b

  abbrev at : ℕ → Float
  at k = get_or scaling_table k nan

  -- an entry past the guess by one or more is above v
  past : (k : ℕ) → k < 63 → g < k → le (at k) v ≡ false
  past k h l = go (le (at k) v) (λ u. bits_of-le (at k) v E.fine E.pos E.low f t u)
    where
      E : Entry k (at k)
      E = table-entry k h

      no : k ≤ guess_of (to_bits binary32 (at k)) → guess_of (to_bits binary32 (at k)) ≤ g → g < k → ⊥
      no x y z = omega arith

      go : (c : Bool) → (T c → to_bits binary32 (at k) ≤ b) → c ≡ false
      go true w = absurd (no E.own (guess_mono (to_bits binary32 (at k)) b (w tt)) l)
      go false w = refl

  -- one before the guess is at most v
  before : (k : ℕ) → k < 63 → k < g → le (at k) v ≡ true
  before k h l =
      is_true (le (at k) v)
      (le-of_bits (at k) v E.fine E.pos E.low f t
      (not-above (λ w. no E.before (guess_mono b (to_bits binary32 (at k) - 1) (one_less w)) l)))
    where
      E : Entry k (at k)
      E = table-entry k h

      one_less : {x y : ℕ} → x < y → x ≤ y - 1
      one_less {x} {y} h = omega arith

      no : guess_of (to_bits binary32 (at k) - 1) ≤ k → g ≤ guess_of (to_bits binary32 (at k) - 1) → k < g → ⊥
      no x y z = omega arith

  pub one_more : le (at g) v ≡ true → factor_of v ≡ g + 1
  one_more e = join (entry_at-most v g (small (guess_le b)) e) (up_to (eq-or-lt_of_le (guess_le b)))
    where
      small : g ≤ 62 → g < 63
      small h = omega arith

      join : g < factor_of v → factor_of v ≤ g + 1 → factor_of v ≡ g + 1
      join x y = omega arith

      last : g ≡ 62 → factor_of v ≤ 63 → factor_of v ≤ g + 1
      last x y = omega arith

      inside : g < 62 → g + 1 < 63
      inside h = omega arith

      ahead : g < g + 1
      ahead = omega arith

      up_to : (g ≡ 62) ⊎ (g < 62) → factor_of v ≤ g + 1
      up_to (inl x) = last x (factor_le v)
      up_to (inr x) = entry-above v (g + 1) (inside x) (past (g + 1) (inside x) ahead)

  pub as_guessed : le (at g) v ≡ false → factor_of v ≡ g
  as_guessed e = join (entry-above v g (small (guess_le b)) e) (from g refl)
    where
      small : g ≤ 62 → g < 63
      small h = omega arith

      join : factor_of v ≤ g → g ≤ factor_of v → factor_of v ≡ g
      join x y = omega arith

      short : (k : ℕ) → g ≡ suc k → g ≤ 62 → k < 63
      short k e h = omega arith

      less : (k : ℕ) → g ≡ suc k → k < g
      less k e = omega arith

      from : (n : ℕ) → g ≡ n → g ≤ factor_of v
      from zero e = subst (λ (n : ℕ). n ≤ factor_of v) (sym e) zero-le
      from (suc k) e = subst (λ (n : ℕ). n ≤ factor_of v) (sym e) (entry_at-most v k (short k e (guess_le b)) (before k (short k e (guess_le b)) (less k e)))

-- ---- what is below the table, or a NaN, is brought to the float before its first entry
abbrev least : Float
least = of_bits binary32 0x342A8D25

abbrev raised : Float → Float
raised v = max_f least v

least-le : T (le least least)
unfolding of_bits le
least-le = tt

least_fits : T (fits binary32 least)
unfolding of_bits fits
least_fits = tt

least_positive : T (positive least)
unfolding of_bits
least_positive = tt

least-bits : to_bits binary32 least ≡ 0x342A8D25
unfolding of_bits to_bits
least-bits = refl

least_factor : factor_of least ≡ 0
unfolding of_bits factor_of count_le scaling_table le
least_factor = refl

raised-le : (v : Float) → T (le least (raised v))
unfolding max_f le
raised-le v = go (lt least v) refl
  where
    or_l : (a c : Bool) → T a → T (a || c)
    or_l true c t = tt
    or_l false c t = absurd t

    go : (c : Bool) → lt least v ≡ c → T (le least (cond c v least))
    go true e = or_l (lt least v) (eq least v) (subst T (sym e) tt)
    go false e = least-le

pub raised-above : (v : Float) → T (above (raised v))
raised-above v = above_of_le least (raised v) least_positive (raised-le v)

pub raised-fits : (v : Float) → T (fits binary32 v) → T (fits binary32 (raised v))
unfolding max_f
raised-fits v f = cond-fits binary32 (lt least v) v least f least_fits

pub raised-bits : (v : Float) → T (fits binary32 v) → 0x34153066 ≤ to_bits binary32 (raised v)
raised-bits v f =
    let l : to_bits binary32 least < 2139095040 = subst (λ (n : ℕ). n < 2139095040) (sym least-bits) (omega arith) in
    let h = bits_of-le least (raised v) least_fits least_positive l (raised-fits v f) (raised-above v) (raised-le v) in
    omega (arith, h, least-bits)

-- its factor stays
first_positive : T (positive (get_or scaling_table 0 nan))
unfolding of_bits scaling_table
first_positive = tt

first_above : T (ltb (num least * den (get_or scaling_table 0 nan)) (num (get_or scaling_table 0 nan) * den least))
unfolding of_bits scaling_table
first_above = tt

pub raised_factor : (v : Float) → factor_of (raised v) ≡ factor_of v
unfolding max_f
raised_factor v = go (lt least v) (λ u. lt_through least (get_or scaling_table 0 nan) v least_positive first_positive (ltb→lt _ _ first_above) u)
  where
    none : (c : Bool) → (T c → ⊥) → c ≡ false
    none true f = absurd (f tt)
    none false f = refl

    zero_only : factor_of v ≤ 0 → 0 ≡ factor_of v
    zero_only h = omega arith

    go : (c : Bool) → (T (le (get_or scaling_table 0 nan) v) → T c) → factor_of (cond c v least) ≡ factor_of v
    go true f = refl
    go false f = least_factor ∙ zero_only (entry-above v 0 (omega arith) (none (le (get_or scaling_table 0 nan) v) f))
