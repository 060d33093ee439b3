-- `hca_answers::refuse` meets its contract. Assumes nothing.
use mathlib.Core.Path.{refl}
use Rattle.hca_answers.specs.Outcomes.{result_of}
use Rattle.hca_answers.proofs.Places.{stored_short, stored_one}
use Rattle.hca_answers.proofs.refuse.Goals as goal

pub returns-then-answer-lt4 : goal.returns-then-answer-lt4
unfolding result_of
returns-then-answer-lt4 c = record { answered = refl; shown = stored_short _ _ c.if-answer-lt4.true }

pub returns : goal.returns
unfolding result_of
returns c = record { answered = refl; shown = stored_one _ _ _ c.if-answer-lt4.false }
