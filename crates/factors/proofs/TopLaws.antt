-- Off NaN the largest of some magnitudes is one and the same, whichever way they are compared. Assumes nothing.
use mathlib.Core.Path.{◌≡◌, refl, sym, ap, ◌∙◌, subst}
use mathlib.Core.Bool.{Bool, true, false, not, cond}
use mathlib.Core.List.{List}
use Prim.Native.Nat.{ℕ, zero, suc, ◌+◌, ◌*◌, ◌≤◌, ◌<◌}
use native.Mathlib.Nat.{le_of_lt, add-zero, zero-add, zero-mul, suc-mul}
use native.Mathlib.Omega.{arith}
use borrow.Author.Tests.{lt-ltb, le-ltb}
use lib.Dec.{T, ltb, ltb→lt, nltb→le}
use lib.Ieee.{Float, nan, inf, fin, binary32, up, down, lt, fits, is_nan}
use lib.Ieee.Fits.{down_pos}
use lib.Ieee.Back.{whole_unique}
use lib.Ieee.Positive.{through}
use lib.Ieee.Scale.{finite}
use lib.ListN.{get_or}
use Rattle.floats.specs.Single.{abs_f, max_f, max_abs, folded, zero_f}
use Rattle.rules.specs.Factor.{peak_of}
use Rattle.factors.specs.Top.{plain, Top}
use Rattle.factors.proofs.OrderLaws.{through_lt}

-- ---- finite values without a sign
pub finite_number : (x : Float) → T (finite x) → T (not (is_nan x))
unfolding is_nan
finite_number nan t = t
finite_number (inf s) t = tt
finite_number (fin s m e) t = tt

plain-abs : (x : Float) → T (finite x) → T (plain (abs_f x))
unfolding plain abs_f
plain-abs nan t = t
plain-abs (inf s) t = t
plain-abs (fin s m e) t = tt

plain-max : (a b : Float) → T (plain a) → T (plain b) → T (plain (max_f a b))
unfolding max_f
plain-max a b p q = go (lt a b)
  where
    go : (c : Bool) → T (plain (cond c b a))
    go true = q
    go false = p

-- ---- their order
below_of : (a b : ℕ) → ltb a b ≡ true → a < b
below_of a b e = ltb→lt a b (subst T (sym e) tt)

not-below : (a b : ℕ) → ltb a b ≡ false → b ≤ a
not-below a b e = nltb→le a b (subst (λ (c : Bool). T (not c)) (sym e) tt)

further : (a b c : Float) → T (plain a) → T (plain b) → T (plain c) → lt a b ≡ true → lt b c ≡ true → lt a c ≡ true
unfolding plain lt
further (fin false m e) (fin false n d) (fin false k h) p q r x y =
    lt-ltb _ _ (through_lt (m * up e) (n * up d) (k * up h) (down e) (down d) (down h) (down_pos h) (below_of _ _ x) (le_of_lt (below_of _ _ y)))
further nan b c p q r x y = absurd p
further (inf s) b c p q r x y = absurd p
further (fin true m e) b c p q r x y = absurd p
further (fin false m e) nan c p q r x y = absurd q
further (fin false m e) (inf s) c p q r x y = absurd q
further (fin false m e) (fin true n d) c p q r x y = absurd q
further (fin false m e) (fin false n d) nan p q r x y = absurd r
further (fin false m e) (fin false n d) (inf s) p q r x y = absurd r
further (fin false m e) (fin false n d) (fin true k h) p q r x y = absurd r

no_further : (a b c : Float) → T (plain a) → T (plain b) → T (plain c) → lt a b ≡ false → lt b c ≡ false → lt a c ≡ false
unfolding plain lt
no_further (fin false m e) (fin false n d) (fin false k h) p q r x y =
    le-ltb _ _ (through (k * up h) (n * up d) (m * up e) (down h) (down d) (down e) (down_pos d) (not-below _ _ y) (not-below _ _ x))
no_further nan b c p q r x y = absurd p
no_further (inf s) b c p q r x y = absurd p
no_further (fin true m e) b c p q r x y = absurd p
no_further (fin false m e) nan c p q r x y = absurd q
no_further (fin false m e) (inf s) c p q r x y = absurd q
no_further (fin false m e) (fin true n d) c p q r x y = absurd q
no_further (fin false m e) (fin false n d) nan p q r x y = absurd r
no_further (fin false m e) (fin false n d) (inf s) p q r x y = absurd r
no_further (fin false m e) (fin false n d) (fin true k h) p q r x y = absurd r

-- ---- so the larger is associative: the first of the largest
max_assoc : (a b c : Float) → T (plain a) → T (plain b) → T (plain c) → max_f (max_f a b) c ≡ max_f a (max_f b c)
unfolding max_f
max_assoc a b c p q r = go (lt a b) (lt b c) refl refl
  where
    go : (u v : Bool) → lt a b ≡ u → lt b c ≡ v → cond (lt (cond u b a) c) c (cond u b a) ≡ cond (lt a (cond v c b)) (cond v c b) a
    go true true x y = rw (y, further a b c p q r x y)
    go true false x y = rw (y, x)
    go false true x y = refl
    go false false x y = rw (x, no_further a b c p q r x y)

-- and 0.0 is below, or it is the same
max-zero : (t : Float) → T (fits binary32 t) → T (plain t) → max_f zero_f t ≡ t
unfolding max_f plain lt fits
max-zero nan f p = absurd p
max-zero (inf s) f p = absurd p
max-zero (fin true m e) f p = absurd p
max-zero (fin false m e) f p = go (ltb (0 * 1 * down e) (m * up e * 1)) refl
  where
    nothing : m * up e * 1 ≤ 0 * 1 * down e → m * up e * 1 ≡ 0 * down e
    nothing h = omega arith

    go : (c : Bool) → ltb (0 * 1 * down e) (m * up e * 1) ≡ c → cond c (fin false m e) zero_f ≡ fin false m e
    go true x = refl
    go false x = whole_unique binary32 zero_f (fin false m e) false 0 tt f (refl, refl) (refl, nothing (not-below _ _ x))

-- ---- runs of magnitudes
folded_split : (op : Float → Float → Float) (xs : List Float) (i stride m k : ℕ) (s : Float)
    → folded op xs i stride (m + k) s ≡ folded op xs (i + m * stride) stride k (folded op xs i stride m s)
unfolding folded
folded_split op xs i stride zero k s = rw (zero-mul stride, add-zero i, zero-add k)
folded_split op xs i stride (suc m) k s =
    let place : i + stride + m * stride ≡ i + suc m * stride = omega (arith, suc-mul m stride) in
    let more : suc m + k ≡ suc (m + k) = omega arith in
    rw more (folded_split op xs (i + stride) stride m k (op s (get_or xs i nan))
    ∙ ap (λ (n : ℕ). folded op xs n stride k (folded op xs (i + stride) stride m (op s (get_or xs i nan)))) place)

-- of one value
pub top_one : (xs : List Float) (i : ℕ) → T (finite (get_or xs i nan)) → Top xs i 1 (abs_f (get_or xs i nan))
unfolding Top folded
top_one xs i f = (plain-abs _ f, λ s p. refl)

-- of two runs, the second right behind the first
pub top_join : (xs : List Float) (i j m k : ℕ) (a b : Float) → j ≡ i + m * 128 → Top xs i m a → Top xs j k b → Top xs i (m + k) (max_f a b)
unfolding Top
top_join xs i j m k a b e v w = (
  plain-max a b v.0 w.0,
  λ s p.
      folded_split max_abs xs i 128 m k s
      ∙ ap (λ (n : ℕ). folded max_abs xs n 128 k (folded max_abs xs i 128 m s)) (sym e)
      ∙ ap (folded max_abs xs j 128 k) (v.1 s p)
      ∙ w.1 (max_f s a) (plain-max s a p v.0)
      ∙ max_assoc s a b p v.0 w.0,
)

-- of a band's eight values
pub top-peak : (xs : List Float) (b : ℕ) (t : Float) → T (fits binary32 t) → Top xs b 8 t → t ≡ peak_of xs b
unfolding Top peak_of plain
top-peak xs b t f v = sym (v.1 zero_f tt ∙ max-zero t f v.0)
