-- What is stored of a delivery, in an answer that is long enough. Assumes nothing.
use mathlib.Core.Path.{◌≡◌, refl}
use mathlib.Core.List.{List, [], ◌∷◌}
use Prim.Native.Nat.{ℕ, ◌≤◌}
use native.Mathlib.Omega.{arith}
use lib.ListN.{length, set}
use Rattle.rules.specs.Refusals.{delivered, refused}
use Rattle.rules.specs.Lent.{overwrite}
use Rattle.hca_answers.specs.Outcomes.{numbers_of, answer_after}
use Rattle.hca_answers.proofs.Places.{stored_one}

pub stored-frames : (answer : List ℕ) (n : ℕ) → 4 ≤ length answer → set answer 0 n ≡ answer_after (delivered (n ∷ [])) answer
unfolding answer_after numbers_of
stored-frames answer n h = stored_one answer 0 n h

pub stored-none : (answer : List ℕ) (number : ℕ) → 3 ≤ length answer → set answer 0 0 ≡ overwrite (numbers_of (refused number 0)) answer
unfolding numbers_of
stored-none [] number h = absurd (omega arith)
stored-none (x ∷ xs) number h = refl

pub stored_summary : (answer : List ℕ) (a b c : ℕ) → 3 ≤ length answer → set (set (set answer 0 a) 1 b) 2 c
    ≡ overwrite (numbers_of (delivered (a ∷ b ∷ c ∷ []))) answer
unfolding numbers_of
stored_summary [] a b c h = absurd (omega arith)
stored_summary (x ∷ []) a b c h = absurd (omega arith)
stored_summary (x ∷ y ∷ []) a b c h = absurd (omega arith)
stored_summary (x ∷ y ∷ z ∷ xs) a b c h = refl
