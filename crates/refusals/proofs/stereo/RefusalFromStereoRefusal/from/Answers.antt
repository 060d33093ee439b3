-- `refusals::stereo::RefusalFromStereoRefusal::from` meets its contract. Assumes nothing.
use Rattle.rules_stereo.specs.Stereo.{stereo_outcome}
use Rattle.refusals.specs.Refusals.{refusal_of}
use Rattle.refusals.proofs.stereo.RefusalFromStereoRefusal.from.Goals as goal

pub returns-in-TooLoud : goal.returns-in-TooLoud
unfolding refusal_of stereo_outcome
returns-in-TooLoud c = rw c.in-TooLoud.is c.refused.ensures

pub returns-in-Stage : goal.returns-in-Stage
unfolding refusal_of stereo_outcome
returns-in-Stage c = rw c.in-Stage.is c.into.ensures
