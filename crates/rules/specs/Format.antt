-- Readers of a list of bits, and what it means that a reader and a writer fit each other.
-- A reader takes the bits that are left. It answers a value with the bits after it, or a refusal: the number of document 01, and how many bits
-- were left at the bit that the refusal names.
use Rattle.std.specs.Prelude.{◌≡◌, List, [], ◌∷◌, ◌++◌, Bool, true, false, cond, ℕ, length, take, drop, replicate, leb}
use Rattle.std.proofs.Math.Option.{Option, none, some}
use Rattle.bits.specs.Bits.{value}

pub data Read (A : Type 0) : Type 0 where
  ok : A → List Bool → Read A
  bad : ℕ → ℕ → Read A

abbrev pub Reader : (A : Type 0) → Type 0
Reader A = List Bool → Read A

abbrev pub pure : {A : Type 0} (a : A) → Reader A
pure a s = ok a s

abbrev pub and_then : {A B : Type 0} (r : Read B) (f : B → Reader A) → Read A
and_then (ok b t) f = f b t
and_then (bad n l) f = bad n l

infixr 20 ◌>>=◌
abbrev pub ◌>>=◌ : {A B : Type 0} (p : Reader B) (f : B → Reader A) → Reader A
◌>>=◌ p f s = and_then (p s) f

-- the bits left here are what a refusal further down names
abbrev pub here : {A : Type 0} (f : ℕ → Reader A) → Reader A
here f s = f (length s) s

-- refusal n at the bit with l left, unless the value passes the test
abbrev pub keep : {A : Type 0} (number left : ℕ) (test : Bool) (a : A) → Reader A
keep number left true a = pure a
keep number left false a = λ s. bad number left

abbrev pub require : {A : Type 0} (number left : ℕ) (test : A → Bool) (p : Reader A) → Reader A
require number left test p = p >>= λ a. keep number left (test a) a

-- several fields that count as one: any refusal in them names the first bit
abbrev pub from : {A : Type 0} (left : ℕ) (r : Read A) → Read A
from left (ok a t) = ok a t
from left (bad n k) = bad n left

abbrev pub as_one : {A : Type 0} (p : Reader A) → Reader A
as_one p s = from (length s) (p s)

-- one after the other; the second may depend on the first
infixr 60 ◌⊗◌
abbrev pub ◌⊗◌ : {A B : Type 0} (p : Reader A) (f : A → Reader B) → Reader (A × B)
◌⊗◌ p f = p >>= λ a. f a >>= λ b. pure (a, b)

-- a value for each x of a list, where each step may depend on a state that the value before it moved on
abbrev pub walk : {S X A : Type 0} (next : S → A → S) (f : S → X → Reader A) (s : S) (xs : List X) → Reader (List A)
walk next f s [] = pure []
walk next f s (x ∷ xs) = f s x >>= λ a. walk next f (next s a) xs >>= λ ys. pure (a ∷ ys)

-- its bits, and when its values are legal
abbrev pub walk_bits : {S X A : Type 0} (next : S → A → S) (w : S → X → A → List Bool) (s : S) (xs : List X) (ys : List A) → List Bool
walk_bits next w s [] ys = []
walk_bits next w s (x ∷ xs) [] = []
walk_bits next w s (x ∷ xs) (a ∷ ys) = w s x a ++ walk_bits next w (next s a) xs ys

abbrev pub Walked : {S X A : Type 0} (next : S → A → S) (L : S → X → A → Type 0) (s : S) (xs : List X) (ys : List A) → Type 0
Walked next L s [] [] = Unit {0}
Walked next L s [] (a ∷ ys) = ⊥
Walked next L s (x ∷ xs) [] = ⊥
Walked next L s (x ∷ xs) (a ∷ ys) = L s x a × Walked next L (next s a) xs ys

-- the same with no state; and n times the same
abbrev pub stay : {A : Type 0} (s : Unit {0}) (a : A) → Unit {0}
stay s a = s

abbrev pub each : {X A : Type 0} (f : X → Reader A) (xs : List X) → Reader (List A)
each f xs = walk stay (λ _. f) tt xs

abbrev pub each_bits : {X A : Type 0} (w : X → A → List Bool) (xs : List X) (ys : List A) → List Bool
each_bits w xs ys = walk_bits stay (λ _. w) tt xs ys

abbrev pub Each : {X A : Type 0} (L : X → A → Type 0) (xs : List X) (ys : List A) → Type 0
Each L xs ys = Walked stay (λ _. L) tt xs ys

abbrev pub times : (n : ℕ) → List (Unit {0})
times n = replicate n tt

-- A number in k bits. Refusal 13 where fewer than k bits are left.
unfoldable pub number : (bits : ℕ) → Reader ℕ
number bits s = cond (leb bits (length s)) (ok (value (take bits s)) (drop bits s)) (bad 13 (length s))

-- One of a list of values, whichever's bits come next. Refusal 13 where none does.
unfoldable pub strip : (word s : List Bool) → Option (List Bool)
strip [] s = some s
strip (x ∷ xs) [] = none
strip (true ∷ xs) (true ∷ s) = strip xs s
strip (true ∷ xs) (false ∷ s) = none
strip (false ∷ xs) (true ∷ s) = none
strip (false ∷ xs) (false ∷ s) = strip xs s

abbrev pub or_else : {A : Type 0} (rest : Option (List Bool)) (a : A) (r : Read A) → Read A
or_else (some t) a r = ok a t
or_else none a r = r

unfoldable pub one_of : {A : Type 0} (w : A → List Bool) (choices : List A) → Reader A
one_of w [] s = bad 13 (length s)
one_of w (c ∷ cs) s = let r = one_of w cs s in or_else (strip (w c) s) c r

-- THE TWO LAWS: what is written is read back, and what is read was written, of a legal value
pub record Lawful {A : Type 0} (L : A → Type 0) (w : A → List Bool) (p : Reader A) : Type 0 where
  pub there : (a : A) (t : List Bool) → L a → p (w a ++ t) ≡ ok a t
  pub back : (s : List Bool) (a : A) (t : List Bool) → p s ≡ ok a t → L a × (s ≡ w a ++ t)
