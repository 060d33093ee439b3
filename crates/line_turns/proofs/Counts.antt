-- How far a line raises the tally, over a step whose answers are small: the counts stay far below 2^64, and a frame's answers fit 32 bits. Assumes nothing.
use mathlib.Core.Option.{Option, none, some}
use Prim.Native.Nat.{ℕ, zero, suc, ◌+◌, ◌*◌, ◌≤◌}
use native.Mathlib.Omega.{arith}
use Rattle.rules.specs.Refusals.{Outcome}
use Rattle.rules.specs.Stage.{StageLent}
use Rattle.rules.specs.declared.Layout.{Layout}
use Rattle.rules_demands.proofs.StageAnswers.{StageBounded, answers_bounded, beside_bounded}
use Rattle.rules_line.specs.Line.{LineLent, LineLeft, Step, frame_lent, step_at, answers_of, tally_after, line_turn, turn_lent, onward, line_after}
use Rattle.rules_line.specs.Asked.{Batch, OnTheWay, AnswersFit}
use Rattle.rules_line.specs.declared.Tally.{Tally}
use Rattle.rules_line.proofs.Turns.{turn_after}
use Rattle.line_turns.specs.Bounded.{BoundedStep}

bounded_fits : (o : Outcome) → StageBounded o → AnswersFit o
unfolding AnswersFit answers_of
bounded_fits o (answers_bounded level boundary pairs bits a b c d) zero = omega arith
bounded_fits o (answers_bounded level boundary pairs bits a b c d) (suc zero) = omega arith
bounded_fits o (answers_bounded level boundary pairs bits a b c d) (suc (suc zero)) = omega arith
bounded_fits o (answers_bounded level boundary pairs bits a b c d) (suc (suc (suc zero))) = omega arith
bounded_fits o (answers_bounded level boundary pairs bits a b c d) (suc (suc (suc (suc i)))) = omega arith
bounded_fits o (beside_bounded number beside h) i = omega arith

-- u is t after k turns at most
pub record Counted (t u : Tally) (k : ℕ) : Type 0 where
  pub frames : u.frames ≤ t.frames + k
  pub bits : u.bits ≤ t.bits + k * 1048576
  pub pairs : u.pairs ≤ t.pairs + k * 1048576

counted_more : (t u : Tally) (k : ℕ) (o : Outcome) → StageBounded o → Counted t u k → Counted t (tally_after u o) (suc k)
unfolding tally_after
counted_more t u k o (answers_bounded level boundary pairs bits a b c d) h = record { frames = omega arith; bits = omega arith; pairs = omega arith }
counted_more t u k o (beside_bounded number beside g) h = record { frames = omega arith; bits = omega arith; pairs = omega arith }

counted_on : (t : Tally) (k : ℕ) (i : Option ℕ) (x y : LineLeft) → Counted t x.tally k → Counted t y.tally (suc k)
    → Counted t (onward i x y).tally (suc k)
unfolding onward
counted_on t k none x y h g = g
counted_on t k (some j) x y h g = record { frames = omega arith; bits = omega arith; pairs = omega arith }

module _ (step : Step) (bounded : BoundedStep step) (l : Layout) where
  -- what it answers for a frame of a line is what it answers for any
  pub at_bounded : (k : ℕ) (t : StageLent) → StageBounded (step_at step l k t).outcome
  unfolding step_at
  at_bounded k t = bounded l (frame_lent l k t)

  pub at-fits : (k : ℕ) (t : StageLent) → AnswersFit (step_at step l k t).outcome
  at-fits k t = bounded_fits (step_at step l k t).outcome (at_bounded k t)

  pub after_counted : (t : LineLent) (k : ℕ) → Counted t.tally (line_after step l t k).tally k
  unfolding line_after line_turn
  after_counted t zero = record { frames = omega arith; bits = omega arith; pairs = omega arith }
  after_counted t (suc k) =
      let x = line_after step l t k in
      counted_on t.tally k x.index x (turn_after step l k x) (after_counted t k)
      (counted_more t.tally x.tally k (step_at step l k (turn_lent x)).outcome (at_bounded k (turn_lent x)) (after_counted t k))

pub on_the_way : (count k : ℕ) (t u : Tally) → Batch count t → k ≤ count → Counted t u k → OnTheWay u
on_the_way count k t u b h c = record { frames = omega arith; bits = omega arith; pairs = omega arith }
