-- The energies of a subframe, the ratio and what is stored, of magnitudes within a bound. Assumes nothing.
use mathlib.Core.Path.{◌≡◌, refl, sym, subst}
use Prim.Native.Nat.{ℕ, zero, suc, ◌+◌, ◌*◌, ◌^◌, ◌≤◌, ◌<◌, zero-le}
use native.Mathlib.Nat.{le_trans, le_of_eq, mul_right_comm, mul-le-mul_right, le_of_mul-le-mul_right, mul-pos, suc-mul, zero-mul}
use native.Mathlib.Omega.{arith}
use mathlib.Core.Bool.{Bool, true, false, not, cond, true≢false}
use lib.Dec.{T, ltb, eqb, leb→le, ltb→lt, lt→ltb, nltb→le, eqb→eq}
use lib.IntN.{ℤ}
use lib.Ieee.{Float, nan, inf, fin, binary32, of_bits, up, down, unlike, is_nan, round, add, mul, div, lt, le}
use lib.Ieee.Fits.{down_pos, up_pos}
use Rattle.floats.specs.Single.{abs_f, held_f, zero_f, one_f}
use Rattle.rules_stereo.specs.Mixed.{two_f, low_ratio, high_ratio, loudness, combined_of, stored_of, ratio_of}
use Rattle.rules_stereo.specs.declared.Energies.{Energies}
use Rattle.stereo_demands.proofs.UpTo.{UpTo, within-abs, whole-small, add-within, mul-within, round_number}

abbrev pub NoNan : (x : Float) → Type 0
NoNan x = T (not (is_nan x))

pub within-number : (n : ℕ) (x : Float) → UpTo n x → NoNan x
unfolding is_nan
within-number n nan w = absurd w
within-number n (inf s) w = tt
within-number n (fin s m e) w = tt

-- ---- a sum of n magnitudes
pub loudness-within : (f : ℕ → Float) (k n : ℕ) → n * k ≤ 2 ^ 24 → ((b : ℕ) → b < n → UpTo k (f b)) → UpTo (n * k) (loudness f n)
unfolding loudness
loudness-within f k zero h w = zero-le
loudness-within f k (suc n) h w =
    let e : suc n * k ≡ n * k + k = suc-mul n k in
    subst (λ (z : ℕ). UpTo z (add binary32 (loudness f n) (abs_f (f n)))) (sym e)
    (add-within (n * k) k (loudness f n) (abs_f (f n)) (whole-small (n * k + k) (omega arith)) (loudness-within f k n (omega arith) (λ b q. w b (omega arith)))
    (within-abs k (f n) (w n (omega arith))))

-- ---- quotients by what is not zero
abbrev NotZero : Float → Type 0
NotZero nan = ⊥
NotZero (inf s) = ⊥
NotZero (fin s m e) = 0 < m

pub div-number : (n : ℕ) (x y : Float) → UpTo n x → NotZero y → NoNan (div binary32 x y)
unfolding div
div-number n nan y w p = absurd w
div-number n (inf s) y w p = absurd w
div-number n (fin s m e) nan w p = absurd p
div-number n (fin s m e) (inf t) w p = absurd p
div-number n (fin s m e) (fin t k d) w p = go (eqb k 0) (eqb→eq k 0)
  where
    none : k ≡ 0 → ⊥
    none e = omega arith

    go : (b : Bool) → (T b → k ≡ 0)
        → NoNan (cond b (cond (eqb m 0) nan (inf (unlike s t))) (round binary32 (unlike s t) (m * up e * down d) (k * up d * down e)))
    go true f = absurd (none (f tt))
    go false f = round_number (unlike s t) (m * up e * down d) (k * up d * down e)

-- above zero, and not at most zero
pub above-some : (n : ℕ) (y : Float) → UpTo n y → lt zero_f y ≡ true → NotZero y
unfolding lt
above-some n nan w h = absurd w
above-some n (inf s) w h = absurd w
above-some n (fin true m e) w h = absurd (subst T (sym h) tt)
above-some n (fin false zero e) w h = absurd (gone (subst T (sym h) tt))
  where
    gone : T (ltb (0 * 1 * down e) (0 * up e * 1)) → ⊥
    gone t = let l = ltb→lt (0 * 1 * down e) (0 * up e * 1) t in omega (arith, zero-mul (up e))
above-some n (fin false (suc m) e) w h = omega arith

pub not-zero-some : (n : ℕ) (y : Float) → UpTo n y → le y zero_f ≡ false → NotZero y
unfolding le
not-zero-some n nan w h = absurd w
not-zero-some n (inf s) w h = absurd w
not-zero-some n (fin s (suc m) e) w h = omega arith
not-zero-some n (fin true zero e) w h = absurd (true≢false (rw (zero-mul (up e), zero-mul (down e)) at h))
not-zero-some n (fin false zero e) w h = absurd (true≢false (rw (zero-mul (up e), zero-mul (down e)) at h))

-- ---- held within two ends, each above zero and at most 1
module _ (j : ℕ) (d : ℤ) (k : ℕ) (g : ℤ) (some : 0 < j) (low : j * up d ≤ 1 * down d) (high : k * up g ≤ 1 * down g) where
  pub held-within : (q : Float) → NoNan q → UpTo 1 (held_f (fin false j d) (fin false k g) q)
  unfolding held_f lt is_nan
  held-within nan p = absurd p
  held-within (inf true) p = low
  held-within (inf false) p = high
  held-within (fin true m e) p = ends (ltb 0 (m * up e * down d + j * up d * down e)) (lt→ltb 0 _ there)
    where
      there : 0 < m * up e * down d + j * up d * down e
      there = omega (arith, mul-pos (mul-pos some (up_pos d)) (down_pos e))

      ends : (b : Bool) → T b → UpTo 1 (cond b (fin false j d) (cond false (fin false k g) (fin true m e)))
      ends true t = low
      ends false t = absurd t
  held-within (fin false m e) p =
      ends (ltb (m * up e * down d) (j * up d * down e)) (ltb (k * up g * down e) (m * up e * down g)) (nltb→le (k * up g * down e) (m * up e * down g))
    where
      inside : m * up e * down g ≤ k * up g * down e → m * up e ≤ 1 * down e
      inside h =
          le_of_mul-le-mul_right
          (le_trans h (le_trans (mul-le-mul_right (down e) high) (le_of_eq (mul_right_comm 1 (down g) (down e)))))
          (down_pos g)

      ends : (a b : Bool) → (T (not b) → m * up e * down g ≤ k * up g * down e) → UpTo 1 (cond a (fin false j d) (cond b (fin false k g) (fin false m e)))
      ends true b f = low
      ends false true f = high
      ends false false f = inside (f tt)

pub ratio_held : (q : Float) → NoNan q → UpTo 1 (held_f low_ratio high_ratio q)
unfolding of_bits
ratio_held q p = held-within _ _ _ _ (leb→le _ _ tt) (leb→le _ _ tt) (leb→le _ _ tt) q p

-- ---- what the rules make of three energies
pub record Fine (n : ℕ) (e : Energies) : Type 0 where
  pub left : UpTo n e.left
  pub right : UpTo n e.right
  pub total : UpTo (2 ^ 25) e.total

module _ (n : ℕ) (e : Energies) (h : n + n ≤ 2 ^ 24) (fine : Fine n e) where
  pub combined_within : UpTo (n + n) (combined_of e)
  unfolding combined_of
  combined_within = add-within n n e.left e.right (whole-small (n + n) h) fine.left fine.right

  pub stored-number : le (combined_of e) zero_f ≡ false → NoNan (stored_of e)
  unfolding stored_of
  stored-number p =
      div-number (2 * n) (mul binary32 two_f e.left) (combined_of e)
      (mul-within 2 n two_f e.left (whole-small (2 * n) (omega arith)) (leb→le 2 2 tt) fine.left)
      (not-zero-some (n + n) (combined_of e) combined_within p)

  pub ratio_within : UpTo 1 (ratio_of e)
  unfolding ratio_of
  ratio_within =
      go (le (combined_of e) zero_f) (lt zero_f e.total)
      (λ p. ratio_held _ (div-number (n + n) (combined_of e) e.total combined_within (above-some (2 ^ 25) e.total fine.total p)))
    where
      go : (a b : Bool) → (b ≡ true → UpTo 1 (held_f low_ratio high_ratio (div binary32 (combined_of e) e.total)))
          → UpTo 1 (cond a one_f (cond b (held_f low_ratio high_ratio (div binary32 (combined_of e) e.total)) one_f))
      go true b f = leb→le 1 1 tt
      go false true f = f refl
      go false false f = leb→le 1 1 tt
