-- A step all of whose answers are small, and that the two single calls are such.
use Rattle.rules.specs.Stage.{StageLent}
use Rattle.rules.specs.declared.Layout.{Layout}
use Rattle.rules_demands.proofs.StageAnswers.{StageBounded, stage_bounds}
use Rattle.rules_stereo.specs.Stereo.{encode_stereo_frame}
use Rattle.stereo_demands.proofs.StereoAnswers.{stereo_bounds}
use Rattle.rules_line.specs.Line.{Step, stage_step}

-- every answer of the step is small
abbrev pub BoundedStep : Step → Type 0
BoundedStep step = (l : Layout) (t : StageLent) → StageBounded (step l t).outcome

pub stage_bounded : BoundedStep stage_step
unfolding stage_step
stage_bounded = stage_bounds

pub stereo_bounded : BoundedStep encode_stereo_frame
stereo_bounded = stereo_bounds
