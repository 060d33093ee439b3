-- A bound on every number of a list: of a list that is put together, and of a part of one. Assumes nothing.
use mathlib.Core.List.{List, [], ◌∷◌, ◌++◌}
use Prim.Native.Nat.{ℕ, zero, suc, ◌≤◌, zero-le}
use lib.ListN.{take, drop}
use Rattle.buffers.specs.Walk.{build, blocks, AtMost}

module _ (m : ℕ) where
  take-most : (n : ℕ) (xs : List ℕ) → AtMost m xs → AtMost m (take n xs)
  take-most zero xs h k = zero-le
  take-most (suc n) [] h k = zero-le
  take-most (suc n) (x ∷ xs) h zero = h 0
  take-most (suc n) (x ∷ xs) h (suc k) = take-most n xs (λ j. h (suc j)) k

  drop-most : (n : ℕ) (xs : List ℕ) → AtMost m xs → AtMost m (drop n xs)
  drop-most zero xs h k = h k
  drop-most (suc n) [] h k = zero-le
  drop-most (suc n) (x ∷ xs) h k = drop-most n xs (λ j. h (suc j)) k

  pub part-most : (a n : ℕ) (xs : List ℕ) → AtMost m xs → AtMost m (take n (drop a xs))
  part-most a n xs h = take-most n (drop a xs) (drop-most a xs h)

  append-most : (xs ys : List ℕ) → AtMost m xs → AtMost m ys → AtMost m (xs ++ ys)
  append-most [] ys h g k = g k
  append-most (x ∷ xs) ys h g zero = h 0
  append-most (x ∷ xs) ys h g (suc k) = append-most xs ys (λ j. h (suc j)) g k

  one-most : (x : ℕ) → x ≤ m → AtMost m (x ∷ [])
  one-most x h zero = h
  one-most x h (suc k) = zero-le

  pub build-most : (f : ℕ → ℕ) → ((i : ℕ) → f i ≤ m) → (n : ℕ) → AtMost m (build f n)
  unfolding build
  build-most f h zero = λ k. zero-le
  build-most f h (suc n) = append-most (build f n) (f n ∷ []) (build-most f h n) (one-most (f n) (h n))

  pub blocks-most : (g : ℕ → List ℕ) → ((i : ℕ) → AtMost m (g i)) → (n : ℕ) → AtMost m (blocks g n)
  unfolding blocks
  blocks-most g h zero = λ k. zero-le
  blocks-most g h (suc n) = append-most (blocks g n) (g n) (blocks-most g h n) (h n)
