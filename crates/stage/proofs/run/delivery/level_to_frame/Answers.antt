-- `stage::run::delivery::level_to_frame` meets its contract. Assumes nothing.
use Rattle.rules.specs.declared.StageRefusal.TheVariants.{NoLevel}
use mathlib.Core.Path.{refl, sym, ap, ◌∙◌}
use borrow.Author.Tests.{le-ltb}
use Rattle.rules.specs.Stage.{stage_left}
use Rattle.stage_gate.proofs.Rooms.{same_error}
use Rattle.stage.specs.Delivery.{wiped}
use Rattle.stage.proofs.Ends.{level-none, settled_packed}
use Rattle.stage.proofs.run.delivery.level_to_frame.Goals as goal

pub returns-in_err-found : goal.returns-in_err-found
returns-in_err-found c =
    let a = c.args in
    let e = c.in_err-found.ensures.err in
    let r = same_error _ (NoLevel c.in_err-found.field-0.0.pairs) c.from_residual.ensures.0 c.from_residual.ensures.1 in
    ap (λ x. wiped a.layout (stage_left x a.scaled.now c.frame_counts.new.counts c.calculate_noise_level.new.factors a.side.now a.frame.now)) r
    ∙ level-none _ _ _ _ 255 _ _ (sym e.0) e.1 c.in_err-found.ensures.factors_left.0 _ _ refl

pub returns : goal.returns
returns c =
    let r = c.in_ok-found.ensures.ok in
    settled_packed _ _ _ _ _ _ _ r.0 r.2 c.in_ok-found.ensures.factors_left.0 _ (le-ltb 254 _ r.1) c.boundary_to_frame.ensures
