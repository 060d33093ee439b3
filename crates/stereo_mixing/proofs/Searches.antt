-- A turn of each loop, as a step of the definition that it follows; and how a subframe is mixed. Assumes nothing.
use Rattle.std.specs.Prelude.{Option}
use Rattle.std.specs.List.{find, range_with_len}
use Rattle.std.specs.Option.{unwrap_or}
use mathlib.Core.Path.{◌≡◌, refl, ap₂, ◌∙◌}
use mathlib.Core.List.{List, [], ◌∷◌, ◌++◌}
use mathlib.Core.Bool.{Bool, true, false, not}
use Prim.Native.Nat.{ℕ, zero, suc, ◌+◌, ◌≤◌, ◌<◌}
use native.Mathlib.Numerals.{add-one}
use native.Mathlib.Omega.{arith}
use lib.Ieee.{Float, nan, binary32, add, mul, div, lt, le}
use lib.ListN.{get_or, take, drop, length, length-append, length-drop}
use lib.Seq.{get_or-take, get_or-drop, length-take-le}
use Rattle.stereo_mixing.specs.Bands.{energies_between}
use Rattle.buffers.specs.Walk.{first_from}
use Rattle.floats.specs.Single.{add_abs, held_f, zero_f, one_f}
use Rattle.rules_stereo.specs.Mixed.{ratio_bounds, two_f, left_value, right_value, loudness, energies, bound_of, low_ratio, high_ratio, combined_of}
use Rattle.rules_stereo.specs.Mixed.{stored_of, intensity_of, ratio_of, mixing_of}
use Rattle.rules_stereo.specs.declared.Energies.{Energies}
use Rattle.stereo_mixing.specs.Bounds.{IsBounds}

-- a sum of n magnitudes, none and one more
abbrev pub Summed : (f : ℕ → Float) (n : ℕ) (s : Float) → Type 0
Summed f n s = s ≡ loudness f n

pub summed_none : (f : ℕ → Float) → Summed f 0 zero_f
unfolding loudness
summed_none f = refl

-- one more, beside the pairs so far
pub summed_more : {A : Type 0} (f : ℕ → Float) (ps : List A) (p : A) (s r x : Float) → Summed f (length ps) s → r ≡ add_abs s x → x ≡ f (length ps)
    → Summed f (length (ps ++ p ∷ [])) r
unfolding loudness
summed_more f ps p s r x h d e =
    let z : length (ps ++ p ∷ []) ≡ suc (length ps) = omega (arith, length-append ps (p ∷ [])) in
    rw (z, d, e, h) refl

-- all of them
pub energies-is : (xs ys : List Float) (n : ℕ) (left right total : Float) → n ≡ length xs → Summed (λ k. get_or xs k nan) n left
    → Summed (λ k. get_or ys k nan) n right
    → Summed (λ k. add binary32 (get_or xs k nan) (get_or ys k nan)) n total
    → record { left = left; right = right; total = mul binary32 total two_f } ≡ energies_between xs ys
unfolding energies_between
energies-is xs ys n left right total q e d f = rw (e, d, f, q) refl

-- sums of what is the same below their end
loudness_same : (f g : ℕ → Float) (n : ℕ) → ((k : ℕ) → k < n → f k ≡ g k) → loudness f n ≡ loudness g n
unfolding loudness
loudness_same f g zero h = refl
loudness_same f g (suc n) h = ap₂ add_abs (loudness_same f g n (λ k b. h k (omega (arith, b)))) (h n (omega arith))

-- the bands of a pair that are lent
module _ (xs : List Float) (at m n : ℕ) (q : m ≡ n) (b : at + n ≤ 1024) (long : length xs ≡ 2048) where
  abbrev lefts : List Float
  lefts = take m (drop at (take 1024 xs))

  abbrev rights : List Float
  rights = take m (drop at (drop 1024 xs))

  left_at : (k : ℕ) → k < n → get_or lefts k nan ≡ left_value xs (at + k)
  left_at k h =
      get_or-take m (drop at (take 1024 xs)) k nan (omega (arith, h, q)) ∙ get_or-drop at (take 1024 xs) k nan
      ∙ get_or-take 1024 xs (at + k) nan (omega (arith, h, b))

  right_at : (k : ℕ) → k < n → get_or rights k nan ≡ right_value xs (at + k)
  right_at k h =
      get_or-take m (drop at (drop 1024 xs)) k nan (omega (arith, h, q)) ∙ get_or-drop at (drop 1024 xs) k nan ∙ get_or-drop 1024 xs (at + k) nan

  pub lefts_long : length lefts ≡ n
  lefts_long = let w = length-take-le 1024 xs (omega (arith, long)) in
      length-take-le m _ (omega (arith, length-drop at (take 1024 xs), w, q, b)) ∙ q

  pub rights_long : length rights ≡ n
  rights_long = length-take-le m _ (omega (arith, length-drop at (drop 1024 xs), length-drop 1024 xs, long, q, b)) ∙ q

  pub energies_lent : energies_between lefts rights ≡ energies xs at n
  unfolding energies_between energies
  energies_lent =
      let both = loudness_same _ _ n (λ k h. ap₂ (add binary32) (left_at k h) (right_at k h)) in
      rw (lefts_long, loudness_same _ _ n left_at, loudness_same _ _ n right_at, both) refl

-- ---- the search among the bounds
found_from : (p : ℕ → Bool) (i n : ℕ) → unwrap_or (find p (range_with_len i n)) (i + n) ≡ first_from p i n
unfolding first_from
found_from p i zero = omega arith
found_from p i (suc n) = go (p i) refl (found_from p (suc i) n)
  where
    go : (b : Bool) → p i ≡ b → unwrap_or (find p (range_with_len (suc i) n)) (suc i + n) ≡ first_from p (suc i) n
        → unwrap_or (find p (range_with_len i (suc n))) (i + suc n) ≡ first_from p i (suc n)
    go true e h = rw e refl
    go false e h = let z : i + suc n ≡ suc i + n = omega arith in rw (z, e, add-one i) h

pub bound_found : (stored : Float) (t : List Float) (r : Option ℕ) → IsBounds t → r ≡ find (λ v. not (le stored (get_or t v nan))) (range_with_len 1 12)
    → unwrap_or r 13 ≡ bound_of stored
unfolding bound_of
bound_found stored t r is e = rw (e, is.table) (found_from (λ v. not (le stored (get_or ratio_bounds v nan))) 1 12)

-- ---- how a subframe is mixed, by the tests on the way
module _ (e : Energies) where
  pub mixing_silent : le (combined_of e) zero_f ≡ true → record { value = 0; ratio = one_f } ≡ mixing_of e
  unfolding mixing_of intensity_of ratio_of
  mixing_silent h = rw h

  pub mixing_held : (v : ℕ) (r : Float) → le (combined_of e) zero_f ≡ false → lt zero_f e.total ≡ true → v ≡ bound_of (stored_of e)
      → r ≡ held_f low_ratio high_ratio (div binary32 (combined_of e) e.total) → record { value = v; ratio = r } ≡ mixing_of e
  unfolding mixing_of intensity_of ratio_of
  mixing_held v r h k p q = rw (h, k, p, q)

  pub mixing_one : (v : ℕ) → le (combined_of e) zero_f ≡ false → lt zero_f e.total ≡ false → v ≡ bound_of (stored_of e) → record { value = v; ratio = one_f }
      ≡ mixing_of e
  unfolding mixing_of intensity_of ratio_of
  mixing_one v h k p = rw (h, k, p)
