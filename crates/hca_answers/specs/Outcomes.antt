-- What is told of an outcome: the number that is returned, and the numbers that are stored.
use Rattle.std.specs.Prelude.{◌≡◌, List, [], ◌∷◌, cond, ℕ, ◌<◌, ltb, length, get_or}
use Rattle.rules.specs.Refusals.{Outcome, delivered, refused}
use Rattle.rules.specs.Lent.{overwrite}

-- what is returned: 0 for a delivery
unfoldable pub result_of : (o : Outcome) → ℕ
result_of (delivered ns) = 0
result_of (refused number beside) = number

-- what stands at the front of the answer
unfoldable pub numbers_of : (o : Outcome) → List ℕ
numbers_of (delivered ns) = ns
numbers_of (refused number beside) = beside ∷ []

-- the rest of the answer stays; one under four places stays whole
unfoldable pub answer_after : (o : Outcome) (answer : List ℕ) → List ℕ
answer_after o answer = cond (ltb (length answer) 4) answer (overwrite (numbers_of o) answer)

-- every number of an outcome fits the answer's places
unfoldable pub Small : (o : Outcome) → Type 0
Small o = (i : ℕ) → get_or (numbers_of o) i 0 < 4294967296

-- result and answer tell this outcome
pub record AnswerStored (o : Outcome) (result : ℕ) (before after : List ℕ) : Type 0 where
  pub answered : result ≡ result_of o
  pub shown : after ≡ answer_after o before
