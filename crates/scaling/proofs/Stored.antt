-- The values of a band stored one after the other: in two halves, what they leave where, and all bands. Assumes nothing.
use mathlib.Core.Path.{◌≡◌, refl, ap, ap₂, ◌∙◌}
use mathlib.Core.List.{List}
use mathlib.Core.Logic.{⊎_elim}
use Prim.Native.Nat.{ℕ, zero, suc, ◌+◌, ◌*◌, ◌≤◌, ◌<◌}
use native.Mathlib.Nat.{le_of_suc-le-suc, eq-or-lt_of_le, zero-add, add-zero, zero-mul}
use native.Mathlib.Numerals.{add-one}
use native.Mathlib.Omega.{arith}
use lib.Ieee.{Float, nan}
use lib.ListN.{length, get_or, set, length-set}
use lib.Seq.{get_or-set_same, get_or-set_other}
use Rattle.rules.specs.Scaling.{scaled_value}
use Rattle.scaling.specs.Bands.{stored_band, Scaled}

module _ (xs : List Float) (f : ℕ) where
  pub stored_split : (i at m k : ℕ) (sc : List Float)
      → stored_band xs f i at (m + k) sc ≡ stored_band xs f (i + m * 128) (at + m) k (stored_band xs f i at m sc)
  unfolding stored_band
  stored_split i at zero k sc = rw (zero-add k, zero-mul 128, add-zero i, add-zero at)
  stored_split i at (suc m) k sc =
      let more : suc m + k ≡ suc (m + k) = omega arith in
      let place : i + 128 + m * 128 ≡ i + suc m * 128 = omega arith in
      let next : at + 1 + m ≡ at + suc m = omega arith in
      rw more
      (stored_split (i + 128) (at + 1) m k (set sc at (scaled_value f (get_or xs i nan)))
      ∙ ap₂ (λ (a b : ℕ). stored_band xs f a b k (stored_band xs f (i + 128) (at + 1) m (set sc at (scaled_value f (get_or xs i nan))))) place next)

  stored-length : (n i at : ℕ) (sc : List Float) → length (stored_band xs f i at n sc) ≡ length sc
  unfolding stored_band
  stored-length zero i at sc = refl
  stored-length (suc n) i at sc = stored-length n (i + 128) (at + 1) (set sc at _) ∙ length-set sc at _

  -- what stands before them stays
  stored-before : (n i at j : ℕ) (sc : List Float) → j < at → get_or (stored_band xs f i at n sc) j nan ≡ get_or sc j nan
  unfolding stored_band
  stored-before zero i at j sc h = refl
  stored-before (suc n) i at j sc h =
      stored-before n (i + 128) (at + 1) j (set sc at _) (omega arith) ∙ get_or-set_other sc at j _ nan (λ e. omega arith)

  -- the s-th of them
  stored_own : (n i at s : ℕ) (sc : List Float) → at + n ≤ length sc → s < n
      → get_or (stored_band xs f i at n sc) (at + s) nan ≡ scaled_value f (get_or xs (i + s * 128) nan)
  unfolding stored_band
  stored_own zero i at s sc l h = absurd (omega arith)
  stored_own (suc n) i at zero sc l h =
      rw (add-zero at, zero-mul 128, add-zero i)
      (stored-before n (i + 128) (at + 1) at (set sc at _) (omega arith) ∙ get_or-set_same sc at _ nan (omega arith))
  stored_own (suc n) i at (suc s) sc l h =
      let next : at + suc s ≡ at + 1 + s = omega arith in
      let place : i + 128 + s * 128 ≡ i + suc s * 128 = omega arith in
      rw next
      (stored_own n (i + 128) (at + 1) s (set sc at _) (omega (arith, length-set sc at (scaled_value f (get_or xs i nan)))) (omega arith)
      ∙ ap (λ (k : ℕ). scaled_value f (get_or xs k nan)) place)

-- a band more
pub scaled_more : (xs : List Float) (fs : List ℕ) (n f : ℕ) (sc : List Float) → Scaled xs fs n sc → n < 128 → f ≡ get_or fs n 0
    → Scaled xs fs (n + 1) (stored_band xs f n (n * 8) 8 sc)
unfolding Scaled
scaled_more xs fs n f sc w h e = (
  stored-length xs f 8 n (n * 8) sc ∙ w.0,
  λ b s l g.
      ⊎_elim
      (λ (q : b ≡ n).
      let place : n + s * 128 ≡ s * 128 + n = omega arith in
      rw q (stored_own xs f 8 n (n * 8) s sc (omega (arith, w.0)) g ∙ ap₂ (λ (a k : ℕ). scaled_value a (get_or xs k nan)) e place))
      (λ (q : b < n). stored-before xs f 8 n (n * 8) (b * 8 + s) sc (omega arith) ∙ w.1 b s q g)
      (eq-or-lt_of_le (le_of_suc-le-suc (rw add-one at l))),
)
