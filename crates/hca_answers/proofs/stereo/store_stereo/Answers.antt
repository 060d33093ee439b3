-- `hca_answers::stereo::store_stereo` meets its contract. Assumes nothing.
use Rattle.rules_stereo.specs.Stereo.{stereo_outcome}
use Rattle.hca_answers.proofs.Places.{small_by, stored_by}
use Rattle.hca_answers.proofs.Refusing.{stereo_refuses, refusal-fits, refusal-stored}
use Rattle.hca_answers.proofs.stereo.store_stereo.Goals as goal

pub store_stage-requires : goal.store_stage-requires
unfolding stereo_outcome
store_stage-requires c = small_by stereo_outcome c.in-Ok.is c.requires

pub returns-in-Ok : goal.returns-in-Ok
unfolding stereo_outcome
returns-in-Ok c = stored_by stereo_outcome c.in-Ok.is c.store_stage.ensures

pub tell-requires : goal.tell-requires
tell-requires c = refusal-fits _ _ (stereo_refuses _) c.into.ensures (small_by stereo_outcome c.in-Err.is c.requires)

pub returns-in-Err : goal.returns-in-Err
returns-in-Err c = stored_by stereo_outcome c.in-Err.is (refusal-stored _ _ (stereo_refuses _) c.into.ensures c.tell.ensures)
