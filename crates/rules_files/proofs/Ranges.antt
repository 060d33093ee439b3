-- A test of every element of a list, as a test of every index, and of every number of a range. Assumes nothing.
use mathlib.Core.Path.{◌≡◌, refl, sym, ap, ◌∙◌}
use mathlib.Core.List.{List, [], ◌∷◌}
use mathlib.Core.Bool.{Bool, true, false, ◌&&◌}
use Prim.Native.Nat.{ℕ, zero, suc, ◌<◌}
use native.Mathlib.Omega.{arith}
use lib.ListN.{length, get_or}
use Rattle.std.specs.List.{list_all, range_with_len}
use Rattle.std.proofs.lemmas.List.FromFn.{length-range_with_len, get_or-range_with_len}
use Rattle.buffers.specs.Walk.{every}
use Rattle.rules_files.proofs.HeaderJudging.{and_group}

every_first : (p : ℕ → Bool) (n : ℕ) → every p (suc n) ≡ (p 0 && every (λ i. p (suc i)) n)
unfolding every
every_first p zero = swap (p 0)
  where
    swap : (b : Bool) → (true && b) ≡ (b && true)
    swap true = refl
    swap false = refl
every_first p (suc n) = ap (λ (b : Bool). b && p (suc n)) (every_first p n) ∙ sym (and_group (p 0) (every (λ i. p (suc i)) n) (p (suc n)))

pub every_same : (p q : ℕ → Bool) (n : ℕ) → ((i : ℕ) → i < n → p i ≡ q i) → every p n ≡ every q n
unfolding every
every_same p q zero h = refl
every_same p q (suc n) h = λ i. every_same p q n (λ k l. h k (omega arith)) i && h n (omega arith) i

-- a test of each element of a list, by the index
pub all-every : (p : ℕ → Bool) (d : ℕ) (xs : List ℕ) → list_all p xs ≡ every (λ i. p (get_or xs i d)) (length xs)
unfolding every
all-every p d [] = refl
all-every p d (x ∷ xs) = ap (λ (b : Bool). p x && b) (all-every p d xs) ∙ sym (every_first (λ i. p (get_or (x ∷ xs) i d)) (length xs))

pub all-range : (p : ℕ → Bool) (n : ℕ) → list_all p (range_with_len 0 n) ≡ every p n
all-range p n =
    all-every p 0 (range_with_len 0 n)
    ∙ ap (every (λ i. p (get_or (range_with_len 0 n) i 0))) (length-range_with_len 0 n)
    ∙ every_same _ _ n (λ i h. ap p (omega (arith, get_or-range_with_len 0 n i 0 h)))
