-- Every number of an outcome fits 32 bits. Assumes nothing.
use native.Mathlib.Omega.{arith}
use Rattle.rules.specs.Refusals.{Outcome}
use Rattle.rules.specs.Stage.{StageLent, encode_frame}
use Rattle.rules.specs.declared.Layout.{Layout}
use Rattle.rules_demands.proofs.StageAnswers.{StageBounded, answers_bounded, beside_bounded, stage_bounds}
use Rattle.hca_answers.specs.Outcomes.{Small}
use Rattle.hca_answers.proofs.Fitting.{small-refused, small-four}

pub bounded_small : (o : Outcome) → StageBounded o → Small o
bounded_small o (answers_bounded level boundary pairs bits h k m n) =
    small-four level boundary pairs bits (omega arith) (omega arith) (omega arith) (omega arith)
bounded_small o (beside_bounded number beside h) = small-refused number beside h

pub stage_small : (l : Layout) (t : StageLent) → Small (encode_frame l t).outcome
stage_small l t = bounded_small _ (stage_bounds l t)
