-- Magnitudes that are at most a whole number, and what sums and products keep of that: rounding keeps the order, and a whole number that the
-- format holds is rounded to itself. Assumes nothing.
use mathlib.Core.Path.{◌≡◌, refl, sym, ap, ◌∙◌, subst}
use Prim.Native.Nat.{ℕ, ◌+◌, ◌-◌, ◌*◌, ◌^◌, ◌≤◌, ◌<◌}
use native.Mathlib.Nat.{le_trans, le_of_eq, mul_comm, mul_assoc, mul_left_comm, mul_right_comm, mul-le-mul, mul-le-mul_right, le_of_mul-le-mul_right, mul-pos}
use native.Mathlib.Nat.{mul-one, one-mul, add-mul}
use native.Mathlib.Omega.{arith}
use mathlib.Core.Bool.{Bool, true, false, not, ◌&&◌, ◌||◌, cond, true≢false}
use lib.Dec.{T, ltb, eqb, ltb→lt, eqb→eq}
use lib.IntN.{pos}
use lib.Pow.{pow_pos}
use lib.Ieee.{Float, nan, inf, fin, binary32, up, down, unlike, is_nan, round, neg, sum, add, mul, le}
use lib.Ieee.Fits.{down_pos}
use lib.Ieee.Exact.{HasValue}
use lib.Ieee.Back.{round_whole}
use lib.Ieee.Order.{round_mono, le_of_values}
use Rattle.floats.specs.Single.{abs_f}
use Rattle.floats.proofs.SumRounded.{Upward, upward_round, neg-round}

-- |x| is at most n, so that x is finite
abbrev pub UpTo : (n : ℕ) (x : Float) → Type 0
UpTo n nan = ⊥
UpTo n (inf s) = ⊥
UpTo n (fin s m e) = m * up e ≤ n * down e

pub wider : (n k : ℕ) (x : Float) → n ≤ k → UpTo n x → UpTo k x
wider n k nan h w = w
wider n k (inf s) h w = w
wider n k (fin s m e) h w = le_trans w (mul-le-mul_right (down e) h)

pub within-abs : (n : ℕ) (x : Float) → UpTo n x → UpTo n (abs_f x)
unfolding abs_f
within-abs n nan w = w
within-abs n (inf s) w = w
within-abs n (fin s m e) w = w

pub within-neg : (n : ℕ) (x : Float) → UpTo n x → UpTo n (neg x)
unfolding neg
within-neg n nan w = w
within-neg n (inf s) w = w
within-neg n (fin s m e) w = w

-- ---- a rounded fraction is no NaN
pub round_number : (s : Bool) (a b : ℕ) → T (not (is_nan (round binary32 s a b)))
unfolding is_nan
round_number false a b = go (round binary32 false a b) (upward_round binary32 a b)
  where
    go : (x : Float) → Upward x → T (not (is_nan x))
    go nan c = absurd c
    go (inf s) c = tt
    go (fin s m e) c = tt
round_number true a b = subst (λ (x : Float). T (not (is_nan x))) (sym (neg-round binary32 a b)) (go (round binary32 false a b) (upward_round binary32 a b))
  where
    go : (x : Float) → Upward x → T (not (is_nan (neg x)))
    go nan c = absurd c
    go (inf s) c = unfold neg in tt
    go (fin s m e) c = unfold neg in tt

-- ---- a whole number that the format holds
abbrev pub Whole : (n : ℕ) → Type 0
Whole n = HasValue (round binary32 false n 1) false n 1

pub whole-small : (n : ℕ) → n ≤ 2 ^ 24 → Whole n
whole-small n h = round_whole binary32 false n h

pub whole_double : Whole (2 ^ 25)
unfolding round
whole_double = (refl, refl)

le_either : (a b : ℕ) (u : Bool) → T (ltb a b || (eqb a b && u)) → a ≤ b
le_either a b u t = go (ltb a b) (eqb a b) u (ltb→lt a b) (eqb→eq a b) t
  where
    less : a < b → a ≤ b
    less h = omega arith

    go : (p q u : Bool) → (T p → a < b) → (T q → a ≡ b) → T (p || (q && u)) → a ≤ b
    go true q u f g t = less (f tt)
    go false true u f g t = le_of_eq (g tt)
    go false false u f g t = absurd t

-- the same by a comparison with a power of two
pub at-most-within : (k : ℕ) (x : Float) → T (le (abs_f x) (fin false 1 (pos k))) → UpTo (2 ^ k) x
unfolding abs_f le
at-most-within k nan h = absurd h
at-most-within k (inf s) h = absurd h
at-most-within k (fin s m e) h =
    le_trans (le_of_eq (sym (mul-one (m * up e))))
    (le_trans (le_either (m * up e * 1) (1 * 2 ^ k * down e) true h) (le_of_eq (ap (λ (z : ℕ). z * down e) (one-mul (2 ^ k)))))

pub within-at-most : (k : ℕ) (x : Float) → UpTo (2 ^ k) x → T (le (abs_f x) (fin false 1 (pos k)))
unfolding abs_f
within-at-most k nan w = absurd w
within-at-most k (inf s) w = absurd w
within-at-most k (fin s m e) w =
    le_of_values (fin false m e) (fin false 1 (pos k)) (m * up e) (down e) (2 ^ k) 1 (down_pos e) (pow_pos 0) (refl, refl)
    (refl, ap (λ (z : ℕ). z * 1) (one-mul (2 ^ k)))
    (le_trans (le_of_eq (mul-one (m * up e))) w)

-- what is at most a whole number is within it
under : (n : ℕ) (x y : Float) → Upward x → HasValue y false n 1 → T (le x y) → UpTo n x
unfolding le
under n nan y c v h = absurd c
under n (inf true) y c v h = absurd c
under n (inf false) nan c v h = absurd v
under n (inf false) (inf s) c v h = absurd v
under n (inf false) (fin t k d) c v h = absurd h
under n (fin true m e) y c v h = absurd c
under n (fin false m e) nan c v h = absurd v
under n (fin false m e) (inf s) c v h = absurd v
under n (fin false m e) (fin true k d) c v h = absurd (true≢false v.0)
under n (fin false m e) (fin false k d) c v h =
    le_of_mul-le-mul_right
    (le_trans (le_either (m * up e * down d) (k * up d * down e) true h)
    (le_of_eq (ap (λ (z : ℕ). z * down e) (sym (mul-one (k * up d)) ∙ v.1) ∙ mul_right_comm n (down d) (down e))))
    (down_pos d)

round-clear : (n a b : ℕ) → Whole n → 0 < b → a ≤ n * b → UpTo n (round binary32 false a b)
round-clear n a b v p h =
    under n (round binary32 false a b) (round binary32 false n 1) (upward_round binary32 a b) v
    (round_mono binary32 a b n 1 p (pow_pos 0) (le_trans (le_of_eq (mul-one a)) h))

pub round-within : (n : ℕ) (s : Bool) (a b : ℕ) → Whole n → 0 < b → a ≤ n * b → UpTo n (round binary32 s a b)
round-within n false a b v p h = round-clear n a b v p h
round-within n true a b v p h = subst (UpTo n) (sym (neg-round binary32 a b)) (within-neg n (round binary32 false a b) (round-clear n a b v p h))

-- ---- sums
module _ (n : ℕ) (v : Whole n) (a b c : ℕ) (p : 0 < c) (h : a + b ≤ n * c) where
  sum-within : (s t : Bool) → UpTo n (sum binary32 s a t b c)
  unfolding sum
  sum-within true true = round-within n true (a + b) c v p h
  sum-within false false = round-within n false (a + b) c v p h
  sum-within true false = apart true false (ltb a b)
    where
      apart : (s t u : Bool) → UpTo n (cond u (round binary32 t (b - a) c) (round binary32 (s && ltb b a) (a - b) c))
      apart s t true = round-within n t (b - a) c v p (omega arith)
      apart s t false = round-within n (s && ltb b a) (a - b) c v p (omega arith)
  sum-within false true = apart false true (ltb a b)
    where
      apart : (s t u : Bool) → UpTo n (cond u (round binary32 t (b - a) c) (round binary32 (s && ltb b a) (a - b) c))
      apart s t true = round-within n t (b - a) c v p (omega arith)
      apart s t false = round-within n (s && ltb b a) (a - b) c v p (omega arith)

pub add-within : (n k : ℕ) (x y : Float) → Whole (n + k) → UpTo n x → UpTo k y → UpTo (n + k) (add binary32 x y)
unfolding add
add-within n k nan y v p q = absurd p
add-within n k (inf s) y v p q = absurd p
add-within n k (fin s m e) nan v p q = absurd q
add-within n k (fin s m e) (inf t) v p q = absurd q
add-within n k (fin s m e) (fin t j d) v p q =
    sum-within (n + k) v (m * up e * down d) (j * up d * down e) (down e * down d) (mul-pos (down_pos e) (down_pos d)) both s t
  where
    one : m * up e * down d ≤ n * (down e * down d)
    one = le_trans (mul-le-mul_right (down d) p) (le_of_eq (mul_assoc n (down e) (down d)))

    two : j * up d * down e ≤ k * (down e * down d)
    two = le_trans (mul-le-mul_right (down e) q) (le_of_eq (mul_assoc k (down d) (down e) ∙ ap (λ (z : ℕ). k * z) (mul_comm (down d) (down e))))

    both : m * up e * down d + j * up d * down e ≤ (n + k) * (down e * down d)
    both = omega (arith, one, two, add-mul n k (down e * down d))

-- ---- products
pub mul-within : (n k : ℕ) (x y : Float) → Whole (n * k) → UpTo n x → UpTo k y → UpTo (n * k) (mul binary32 x y)
unfolding mul
mul-within n k nan y v p q = absurd p
mul-within n k (inf s) y v p q = absurd p
mul-within n k (fin s m e) nan v p q = absurd q
mul-within n k (fin s m e) (inf t) v p q = absurd q
mul-within n k (fin s m e) (fin t j d) v p q =
    round-within (n * k) (unlike s t) (m * up e * (j * up d)) (down e * down d) v (mul-pos (down_pos e) (down_pos d))
    (le_trans (mul-le-mul p q) (le_of_eq (simp (mul_assoc, mul_left_comm))))
