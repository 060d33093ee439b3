-- Numbers that fit 32 bits make an outcome that does, and the other way. Assumes nothing.
use mathlib.Core.List.{[], ◌∷◌}
use Prim.Native.Nat.{ℕ, zero, suc, ◌<◌}
use native.Mathlib.Omega.{arith}
use Rattle.rules.specs.Refusals.{delivered, refused}
use Rattle.hca_answers.specs.Outcomes.{numbers_of, Small}

pub small-refused : (number beside : ℕ) → beside < 4294967296 → Small (refused number beside)
unfolding Small numbers_of
small-refused number beside h zero = h
small-refused number beside h (suc i) = omega arith

pub small-four : (a b c d : ℕ) → a < 4294967296 → b < 4294967296 → c < 4294967296 → d < 4294967296 → Small (delivered (a ∷ b ∷ c ∷ d ∷ []))
unfolding Small numbers_of
small-four a b c d h k m n zero = h
small-four a b c d h k m n (suc zero) = k
small-four a b c d h k m n (suc (suc zero)) = m
small-four a b c d h k m n (suc (suc (suc zero))) = n
small-four a b c d h k m n (suc (suc (suc (suc i)))) = omega arith

pub small-three : (a b c : ℕ) → a < 4294967296 → b < 4294967296 → c < 4294967296 → Small (delivered (a ∷ b ∷ c ∷ []))
unfolding Small numbers_of
small-three a b c h k m zero = h
small-three a b c h k m (suc zero) = k
small-three a b c h k m (suc (suc zero)) = m
small-three a b c h k m (suc (suc (suc i))) = omega arith

-- what is taken out again
pub of-refused : (number beside : ℕ) → Small (refused number beside) → beside < 4294967296
unfolding Small numbers_of
of-refused number beside h = h 0

pub of_three : (a b c : ℕ) → Small (delivered (a ∷ b ∷ c ∷ [])) → (a < 4294967296) × (b < 4294967296) × (c < 4294967296)
unfolding Small numbers_of
of_three a b c h = (h 0, h 1, h 2)

pub of_four : (a b c d : ℕ) → Small (delivered (a ∷ b ∷ c ∷ d ∷ [])) → (a < 4294967296) × (b < 4294967296) × (c < 4294967296) × (d < 4294967296)
unfolding Small numbers_of
of_four a b c d h = (h 0, h 1, h 2, h 3)
