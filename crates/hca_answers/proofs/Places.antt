-- What is stored of an outcome: a short answer as it was, a longer one with the numbers over its front. Assumes nothing.
use mathlib.Core.Path.{◌≡◌, refl, sym, ◌∙◌, subst}
use mathlib.Core.List.{List, [], ◌∷◌}
use Prim.Native.Nat.{ℕ, ◌≤◌, ◌<◌}
use native.Mathlib.Omega.{arith}
use borrow.Author.Tests.{lt-ltb, le-ltb}
use lib.ListN.{length, set}
use Rattle.rules.specs.Refusals.{Outcome, delivered, refused}
use Rattle.rules.specs.Lent.{overwrite}
use Rattle.hca_answers.specs.Outcomes.{numbers_of, answer_after, Small, AnswerStored}

pub stored_short : (o : Outcome) (answer : List ℕ) → length answer < 4 → answer ≡ answer_after o answer
unfolding answer_after
stored_short o answer h = rw (lt-ltb _ _ h)

pub stored-long : (o : Outcome) (answer : List ℕ) → 4 ≤ length answer → answer_after o answer ≡ overwrite (numbers_of o) answer
unfolding answer_after
stored-long o answer h = rw (le-ltb _ _ h)

over-one : (xs : List ℕ) (a : ℕ) → 4 ≤ length xs → set xs 0 a ≡ overwrite (a ∷ []) xs
over-one [] a h = absurd (omega arith)
over-one (x ∷ xs) a h = refl

over-four : (xs : List ℕ) (a b c d : ℕ) → 4 ≤ length xs → set (set (set (set xs 0 a) 1 b) 2 c) 3 d ≡ overwrite (a ∷ b ∷ c ∷ d ∷ []) xs
over-four [] a b c d h = absurd (omega arith)
over-four (x ∷ []) a b c d h = absurd (omega arith)
over-four (x ∷ y ∷ []) a b c d h = absurd (omega arith)
over-four (x ∷ y ∷ z ∷ []) a b c d h = absurd (omega arith)
over-four (x ∷ y ∷ z ∷ w ∷ xs) a b c d h = refl

pub stored_one : (answer : List ℕ) (number a : ℕ) → 4 ≤ length answer → set answer 0 a ≡ answer_after (refused number a) answer
unfolding numbers_of
stored_one answer number a h = over-one answer a h ∙ sym (stored-long (refused number a) answer h)

pub stored-four : (answer : List ℕ) (a b c d : ℕ) → 4 ≤ length answer
    → set (set (set (set answer 0 a) 1 b) 2 c) 3 d ≡ answer_after (delivered (a ∷ b ∷ c ∷ d ∷ [])) answer
unfolding numbers_of
stored-four answer a b c d h = over-four answer a b c d h ∙ sym (stored-long (delivered (a ∷ b ∷ c ∷ d ∷ [])) answer h)

-- ---- an answer by its variant

module _ {A : Type 0} (number : A → Outcome) {a b : A} (e : a ≡ b) where
  pub small_by : Small (number a) → Small (number b)
  small_by h = subst (λ x. Small (number x)) e h

  pub stored_by : {r : ℕ} {before after : List ℕ} → AnswerStored (number b) r before after → AnswerStored (number a) r before after
  stored_by {r} {before} {after} h = subst (λ x. AnswerStored (number x) r before after) (sym e) h
