-- What a search in the part that is lent finds, as the search in the whole. Assumes nothing.
use Rattle.std.specs.Prelude.{Some, None}
use Rattle.std.specs.List.{fold, position, position_or_len}
use mathlib.Core.Path.{◌≡◌, refl, sym, ap, subst, ◌∙◌}
use mathlib.Core.List.{List, [], ◌∷◌}
use mathlib.Core.Bool.{Bool, true, false, cond, not, ◌||◌}
use Prim.Native.Nat.{ℕ, zero, suc, ◌+◌, ◌≤◌, ◌<◌}
use native.Mathlib.Omega.{arith}
use borrow.Author.Tests.{lt-ltb, le-ltb}
use lib.Dec.{ltb}
use lib.Ieee.{Float, nan}
use Rattle.buffers.proofs.Scan.{or_false}
use lib.ListN.{length, get_or, take}
use lib.Seq.{get_or-take, length-take-le}
use Rattle.buffers.specs.Walk.{first, first_from}
use Rattle.rules.specs.Stage.{bad_intensity, bad_spectrum}
use Rattle.rules.specs.declared.Layout.{Layout}
use Rattle.stage_gate.specs.Gate.{first_if_any}

-- where none is found
pub found_none : (p : ℕ → Bool) (n i : ℕ) → first p n ≡ i → n ≤ i → None ≡ first_if_any p n
unfolding first_if_any
found_none p n i e h = rw (e, le-ltb i n h)

-- what was found is the first
pub some_first : (p : ℕ → Bool) (n i : ℕ) → Some i ≡ first_if_any p n → (first p n ≡ i) × (ltb (first p n) n ≡ true)
unfolding first_if_any
some_first p n i e = go (ltb (first p n) n) refl e
  where
    go : (t : Bool) → ltb (first p n) n ≡ t → Some i ≡ cond t (Some (first p n)) None → (first p n ≡ i) × (ltb (first p n) n ≡ true)
    go true d f = (cc, d)
    go false d f = absurd (cc f)

pub none_first : (p : ℕ → Bool) (n : ℕ) → None ≡ first_if_any p n → ltb (first p n) n ≡ false
unfolding first_if_any
none_first p n e = go (ltb (first p n) n) refl e
  where
    go : (t : Bool) → ltb (first p n) n ≡ t → None ≡ cond t (Some (first p n)) None → ltb (first p n) n ≡ false
    go true d f = absurd (cc f)
    go false d f = d

-- the search of a list's elements, as the search of its indices: from the i-th of all on
module _ {A : Type 0} (test : A → Bool) (d : A) where
  abbrev SameAt : (p : ℕ → Bool) (i : ℕ) (xs : List A) → Type 0
  SameAt p i xs = (j k : ℕ) → j ≡ i + k → k < length xs → p j ≡ test (get_or xs k d)

  first_index : (xs : List A) (p : ℕ → Bool) (i : ℕ) → SameAt p i xs → first_from p i (length xs) ≡ i + position_or_len test xs
  unfolding first_from
  first_index [] p i h = omega arith
  first_index (x ∷ xs) p i h = go (test x) refl (first_index xs p (suc i) (λ j k e b. h j (suc k) (omega (arith, e)) (omega (arith, b))))
    where
      go : (t : Bool) → test x ≡ t → first_from p (suc i) (length xs) ≡ suc i + position_or_len test xs
          → cond (p i) i (first_from p (suc i) (length xs)) ≡ i + cond (not (test x)) (1 + position_or_len test xs) 0
      go true e r = rw (h i 0 (omega arith) (omega arith), e) (omega arith)
      go false e r = rw (h i 0 (omega arith) (omega arith), e) (omega (arith, r))

  pub position_first : (xs : List A) (p : ℕ → Bool) → SameAt p 0 xs → position test xs ≡ first_if_any p (length xs)
  unfolding first_if_any
  position_first xs p h =
      let e : position_or_len test xs ≡ first p (length xs) = omega (arith, first_index xs p 0 h) in
      ap (λ k. cond (ltb k (length xs)) (Some k) None) e

  -- and a fold that keeps what was found
  found_index : (xs : List A) (p : ℕ → Bool) (i n : ℕ) (b : Bool) → i + length xs ≡ n → SameAt p i xs
      → fold (λ found x. found || test x) b xs ≡ b || ltb (first_from p i (length xs)) n
  unfolding first_from
  found_index [] p i n b q h = sym (rw (le-ltb i n (omega (arith, q))) (or_false b))
  found_index (x ∷ xs) p i n b q h =
      found_index xs p (suc i) n (b || test x) (omega (arith, q)) (λ j k e b. h j (suc k) (omega (arith, e)) (omega (arith, b))) ∙ go b (test x) refl
    where
      go : (b t : Bool) → test x ≡ t → (b || test x) || ltb (first_from p (suc i) (length xs)) n
          ≡ b || ltb (cond (p i) i (first_from p (suc i) (length xs))) n
      go true t e = refl
      go false true e = rw (h i 0 (omega arith) (omega arith), e) (sym (lt-ltb i n (omega (arith, q))))
      go false false e = rw (h i 0 (omega arith) (omega arith), e) refl

  pub fold_found : (xs : List A) (p : ℕ → Bool) → SameAt p 0 xs → fold (λ found x. found || test x) false xs ≡ ltb (first p (length xs)) (length xs)
  fold_found xs p h = found_index xs p 0 (length xs) false (omega arith) h

-- two searches for what is the same below the end
pub same_from : (p q : ℕ → Bool) (i k : ℕ) → ((j : ℕ) → j < i + k → p j ≡ q j) → first_from p i k ≡ first_from q i k
unfolding first_from
same_from p q i zero h = refl
same_from p q i (suc k) h = rw (h i (omega arith), same_from p q (suc i) k (λ j b. h j (omega (arith, b))))

-- the part that is lent is as long as what is searched
module _ (l : Layout) (n : ℕ) (is : List ℕ) (long : n ≤ length is) where
  abbrev part : List ℕ
  part = take n is

  front : first (bad_intensity l part) (length part) ≡ first (bad_intensity l is) n
  unfolding bad_intensity
  front = rw (length-take-le n is long) (same_from _ _ 0 n (λ j h. rw (get_or-take n is j 0 (omega (arith, h)))))

  pub bad_intensities_whole : (i : ℕ) → Some i ≡ first_if_any (bad_intensity l part) (length part)
      → (first (bad_intensity l is) n ≡ i) × (ltb i n ≡ true)
  bad_intensities_whole i e =
      let f = some_first _ _ i e in
      (sym front ∙ f.0, subst (λ (k : ℕ). ltb i k ≡ true) (length-take-le n is long) (subst (λ (j : ℕ). ltb j (length part) ≡ true) f.0 f.1))

  pub bad_intensities_none : None ≡ first_if_any (bad_intensity l part) (length part) → ltb (first (bad_intensity l is) n) n ≡ false
  bad_intensities_none e = rw (front, length-take-le n is long) at (none_first _ _ e)

pub bad_spectra_first : (n : ℕ) (xs : List Float) → first (bad_spectrum (take n xs)) n ≡ first (bad_spectrum xs) n
unfolding bad_spectrum
bad_spectra_first n xs = same_from _ _ 0 n (λ j h. rw (get_or-take n xs j nan (omega (arith, h))))

module _ (n : ℕ) (xs : List Float) (long : n ≤ length xs) where
  abbrev spectra : List Float
  spectra = take n xs

  front_spectra : first (bad_spectrum spectra) (length spectra) ≡ first (bad_spectrum xs) n
  unfolding bad_spectrum
  front_spectra = rw (length-take-le n xs long) (same_from _ _ 0 n (λ j h. rw (get_or-take n xs j nan (omega (arith, h)))))

  pub bad_spectra_whole : (i : ℕ) → Some i ≡ first_if_any (bad_spectrum spectra) (length spectra)
      → (first (bad_spectrum xs) n ≡ i) × (ltb i n ≡ true)
  bad_spectra_whole i e =
      let f = some_first _ _ i e in
      (sym front_spectra ∙ f.0, subst (λ (k : ℕ). ltb i k ≡ true) (length-take-le n xs long) (subst (λ (j : ℕ). ltb j (length spectra) ≡ true) f.0 f.1))

  pub bad_spectra_none : None ≡ first_if_any (bad_spectrum spectra) (length spectra) → ltb (first (bad_spectrum xs) n) n ≡ false
  bad_spectra_none e = rw (front_spectra, length-take-le n xs long) at (none_first _ _ e)
