-- `stage::run::delivery::boundary_to_frame` meets its contract. Assumes nothing.
use borrow.Author.Tests.{lt-ltb, le-ltb}
use Rattle.rules.specs.Refusals.{stage_outcome}
use Rattle.stage.proofs.Ends.{packed_ends}
use Rattle.stage.proofs.run.delivery.boundary_to_frame.Goals as goal

pub returns-then-layout-written : goal.returns-then-layout-written
unfolding stage_outcome
returns-then-layout-written c =
    packed_ends _ _ _ _ _ _ _ _ _ _ c.codes_and_frame-written.ensures c.calculate_evaluation_boundary-boundary.ensures.0 _
    (rw (lt-ltb _ _ c.if-layout-written.true))

pub returns : goal.returns
unfolding stage_outcome
returns c =
    packed_ends _ _ _ _ _ _ _ _ _ _ c.codes_and_frame-written.ensures c.calculate_evaluation_boundary-boundary.ensures.0 _
    (rw (le-ltb _ _ c.if-layout-written.false))
