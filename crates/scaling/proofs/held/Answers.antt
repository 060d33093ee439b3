-- `scaling::held` meets its contract. Assumes nothing.
use mathlib.Core.Path.{ap, ◌∙◌}
use lib.Ieee.{Float, neg}
use Rattle.floats.specs.Single.{max_f}
use Rattle.rules.specs.Scaling.{clip}
use Rattle.scaling.proofs.HoldLaws.{held-is}
use Rattle.scaling.proofs.held.Goals as goal

pub returns : goal.returns
returns c = c.larger.ensures ∙ ap (λ (y : Float). max_f y (neg clip)) c.smaller.ensures ∙ held-is c.args.x
