-- Walks over indices: the first index with a property, whether all have it, a sum, a list built from a function, a list of blocks; and a bound on
-- a list's numbers. Definitions only.
use Rattle.std.specs.Prelude.{List, [], ◌∷◌, ◌++◌, Bool, true, cond, ◌&&◌, ℕ, zero, suc, ◌+◌, ◌≤◌, get_or}

-- the first index from i on, among k, with p; else i + k
unfoldable pub first_from : (p : ℕ → Bool) (i count : ℕ) → ℕ
first_from p i zero = i
first_from p i (suc k) = cond (p i) i (first_from p (suc i) k)

-- the first index below n with p; else n
abbrev pub first : (p : ℕ → Bool) (n : ℕ) → ℕ
first p n = first_from p 0 n

-- a list by its elements
unfoldable pub build : {A : Type 0} (f : ℕ → A) (n : ℕ) → List A
build f zero = []
build f (suc n) = build f n ++ (f n ∷ [])

-- a sum
unfoldable pub sum_to : (f : ℕ → ℕ) (n : ℕ) → ℕ
sum_to f zero = 0
sum_to f (suc n) = sum_to f n + f n

-- lists one after the other
unfoldable pub blocks : {A : Type 0} (g : ℕ → List A) (n : ℕ) → List A
blocks g zero = []
blocks g (suc n) = blocks g n ++ g n

-- whether every index below n has p
unfoldable pub every : (p : ℕ → Bool) (n : ℕ) → Bool
every p zero = true
every p (suc n) = every p n && p n

-- every number of a list is at most m
abbrev pub AtMost : (m : ℕ) (xs : List ℕ) → Type 0
AtMost m xs = (k : ℕ) → get_or xs k 0 ≤ m
