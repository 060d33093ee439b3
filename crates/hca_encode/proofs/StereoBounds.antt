-- Every number of an outcome fits 32 bits. Assumes nothing.
use Rattle.rules.specs.Stage.{StageLent}
use Rattle.rules.specs.declared.Layout.{Layout}
use Rattle.rules_stereo.specs.Stereo.{encode_stereo_frame}
use Rattle.stereo_demands.proofs.StereoAnswers.{stereo_bounds}
use Rattle.hca_answers.specs.Outcomes.{Small}
use Rattle.hca_encode.proofs.FrameBounds.{bounded_small}

pub stereo-small : (l : Layout) (t : StageLent) → Small (encode_stereo_frame l t).outcome
stereo-small l t = bounded_small _ (stereo_bounds l t)
