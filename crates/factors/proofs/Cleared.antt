-- A buffer that is filled up to a place and cleared from there on. Assumes nothing.
use mathlib.Core.Path.{◌≡◌, sym, ap, ◌∙◌}
use mathlib.Core.Bool.{cond}
use mathlib.Core.List.{List, [], ◌∷◌, ◌++◌, append_assoc, append-nil}
use Prim.Native.Nat.{ℕ, zero, suc, ◌+◌, ◌-◌, ◌≤◌, ◌<◌}
use native.Mathlib.Nat.{add-zero, add-suc}
use native.Mathlib.Numerals.{add-one}
use native.Mathlib.Omega.{arith}
use borrow.Author.Tests.{lt-ltb, le-ltb}
use lib.Dec.{ltb}
use lib.ListN.{length, get_or, take, drop, replicate, get_or-append, length-drop, drop_of_length-le, replicate-append-replicate}
use lib.Seq.{length-take-le}
use Rattle.buffers.specs.Walk.{build}
use Rattle.buffers.proofs.Build.{build-suc, build-at, length-build}
use Rattle.rules.proofs.Cuts.{build-same}

module _ {A : Type 0} (d : A) where
  -- what a loop over the first n has stored
  pub front_at : (f : ℕ → A) (n : ℕ) (xs r : List A) → xs ≡ build f n ++ r → (i : ℕ) → i < n → get_or xs i d ≡ f i
  front_at f n xs r e i h = rw e (get_or-append (build f n) r d i (rw (length-build f n) h) ∙ build-at f n i d h)

  -- the part from n on, which was lent, came back as ys
  pub cleared-is : (k n : ℕ) (xs ys : List A) → length xs ≡ k → n ≤ k → ys ≡ replicate (length (take (length xs - n) (drop n xs))) d
      → take n xs ++ (ys ++ drop (length xs - n) (drop n xs)) ≡ take n xs ++ replicate (k - n) d
  cleared-is k n xs ys e h c =
      let l : length (take (length xs - n) (drop n xs)) ≡ k - n = length-take-le (length xs - n) (drop n xs) (omega (arith, length-drop n xs))
      ∙ ap (λ (i : ℕ). i - n) e in
      let z : drop (length xs - n) (drop n xs) ≡ [] = drop_of_length-le (drop n xs) {i = length xs - n} (omega (arith, length-drop n xs)) in
      rw (c, l, z, append-nil (replicate (k - n) d))

  -- a list that has one value from n on
  past : (f : ℕ → A) (n m : ℕ) → build (λ i. cond (ltb i n) (f i) d) (n + m) ≡ build f n ++ replicate m d
  past f n zero = rw (add-zero n, append-nil (build f n)) (build-same _ f n (λ i h. rw (lt-ltb i n h)))
  past f n (suc m) =
      let last : cond (ltb (n + m) n) (f (n + m)) d ≡ d = rw (le-ltb (n + m) n (omega arith)) in
      rw (add-suc n m, build-suc (λ i. cond (ltb i n) (f i) d) (n + m), last, past f n m, append_assoc (build f n) (replicate m d) (d ∷ []))
      (ap (λ xs. build f n ++ xs) (replicate-append-replicate m 1 d ∙ ap (λ (i : ℕ). replicate i d) (add-one m)))

  pub build-past : (f : ℕ → A) (n k : ℕ) → n ≤ k → build (λ i. cond (ltb i n) (f i) d) k ≡ build f n ++ replicate (k - n) d
  build-past f n k h = let e : n + (k - n) ≡ k = omega arith in ap (build (λ i. cond (ltb i n) (f i) d)) (sym e) ∙ past f n (k - n)
