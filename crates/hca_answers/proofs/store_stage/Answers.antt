-- `hca_answers::store_stage` meets its contract. Assumes nothing.
use native.Mathlib.Omega.{arith}
use Rattle.rules.specs.Refusals.{stage_outcome}
use Rattle.hca_answers.proofs.Places.{small_by, stored_by}
use Rattle.hca_answers.proofs.Refusing.{stage_refuses, refusal-fits, refusal-stored}
use Rattle.hca_answers.proofs.store_stage.Goals as goal

pub deliver-requires : goal.deliver-requires
unfolding stage_outcome
deliver-requires c = record { few = omega arith; small = small_by stage_outcome c.in-Ok.is c.requires }

pub returns-in-Ok : goal.returns-in-Ok
unfolding stage_outcome
returns-in-Ok c = stored_by stage_outcome c.in-Ok.is c.deliver.ensures

pub tell-requires : goal.tell-requires
tell-requires c = refusal-fits _ _ (stage_refuses _) c.into.ensures (small_by stage_outcome c.in-Err.is c.requires)

pub returns-in-Err : goal.returns-in-Err
returns-in-Err c = stored_by stage_outcome c.in-Err.is (refusal-stored _ _ (stage_refuses _) c.into.ensures c.tell.ensures)
