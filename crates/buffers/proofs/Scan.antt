-- A loop that looks for the first index with a property, one that goes on behind it, and a loop that adds up. Assumes nothing.
use mathlib.Core.Path.{◌≡◌, refl, sym, ap, ap₂, ◌∙◌}
use mathlib.Core.Bool.{Bool, true, false, ◌||◌}
use Prim.Native.Nat.{ℕ, zero, suc, ◌+◌, ◌-◌, ◌*◌, ◌≤◌, ◌<◌, zero-le}
use native.Mathlib.Nat.{suc-mul, add-le-add}
use native.Mathlib.Numerals.{add-one}
use native.Mathlib.Omega.{arith}
use lib.Dec.{ltb}
use borrow.Author.Tests.{lt-ltb, le-ltb}
use Rattle.buffers.specs.Walk.{first_from, sum_to}

pub left-suc : (n i : ℕ) → i < n → n - i ≡ suc (n - suc i)
left-suc n i h = omega arith

-- at the index i, with n - i to go
module _ (p : ℕ → Bool) (n i : ℕ) where
  pub first_stop : i < n → p i ≡ true → first_from p i (n - i) ≡ i
  unfolding first_from
  first_stop h e = rw (left-suc n i h, e)

  pub first_next : i < n → p i ≡ false → first_from p i (n - i) ≡ first_from p (i + 1) (n - (i + 1))
  unfolding first_from
  first_next h e = rw (add-one i, left-suc n i h, e)

  pub first_end : n ≤ i → first_from p i (n - i) ≡ i
  unfolding first_from
  first_end h = let z : n - i ≡ 0 = omega arith in rw z

pub or_false : (b : Bool) → b || false ≡ b
or_false true = refl
or_false false = refl

-- found so far, or to be found from i on: a turn, and the end
module _ (p : ℕ → Bool) (n i : ℕ) where
  pub found_turn : (found : Bool) → i < n → found || ltb (first_from p i (n - i)) n ≡ (found || p i) || ltb (first_from p (i + 1) (n - (i + 1))) n
  found_turn true h = refl
  found_turn false h = go (p i) refl
    where
      go : (b : Bool) → p i ≡ b → ltb (first_from p i (n - i)) n ≡ b || ltb (first_from p (i + 1) (n - (i + 1))) n
      go true e = ap (λ (k : ℕ). ltb k n) (first_stop p n i h e) ∙ lt-ltb i n h
      go false e = ap (λ (k : ℕ). ltb k n) (first_next p n i h e)

  pub found_end : (found : Bool) → n ≤ i → found || ltb (first_from p i (n - i)) n ≡ found
  found_end found h = ap (λ (k : ℕ). found || ltb k n) (first_end p n i h) ∙ ap (◌||◌ found) (le-ltb i n h) ∙ or_false found

pub sum-none : (f : ℕ → ℕ) → sum_to f 0 ≡ 0
unfolding sum_to
sum-none f = refl

pub sum_more : (f : ℕ → ℕ) (n : ℕ) → sum_to f (n + 1) ≡ sum_to f n + f n
unfolding sum_to
sum_more f n = rw add-one

-- sums of functions that agree below their end
pub sum_same : (f g : ℕ → ℕ) (n : ℕ) → ((i : ℕ) → i < n → f i ≡ g i) → sum_to f n ≡ sum_to g n
unfolding sum_to
sum_same f g zero h = refl
sum_same f g (suc n) h = ap₂ ◌+◌ (sum_same f g n (λ i lt. h i (omega arith))) (h n (omega arith))

-- n numbers of at most m each
pub sum_bound : (f : ℕ → ℕ) (n m : ℕ) → ((i : ℕ) → i < n → f i ≤ m) → sum_to f n ≤ n * m
unfolding sum_to
sum_bound f zero m h = zero-le
sum_bound f (suc n) m h = rw (suc-mul n m) (add-le-add (sum_bound f n m (λ i lt. h i (omega arith))) (h n (omega arith)))

-- a turn of a loop that adds up
pub sum-turn : (f : ℕ → ℕ) (n sum v : ℕ) → sum ≡ sum_to f n → v ≡ f n → sum + v ≡ sum_to f (n + 1)
sum-turn f n sum v p q = rw (p, q) (sym (sum_more f n))
