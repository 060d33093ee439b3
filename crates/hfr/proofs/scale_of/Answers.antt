-- `hfr::scale_of` meets its contract. Assumes nothing.
use mathlib.Core.Path.{ap, ap₂, ◌∙◌}
use borrow.Author.Tests.{lt-ltb, le-ltb}
use Rattle.rules.specs.Factor.{factor_of}
use Rattle.rules.specs.Hfr.{group_value}
use Rattle.hfr.proofs.scale_of.Goals as goal

pub returns-then-group-groups : goal.returns-then-group-groups
returns-then-group-groups c =
    rw (lt-ltb _ _ c.if-group-groups.true)
    (c.find_scale_factor.ensures.0
    ∙ ap factor_of (c.group_value.ensures ∙ ap₂ group_value c.mean.ensures c.mean-then-group-groups.ensures))

pub returns-else-group-groups : goal.returns-else-group-groups
returns-else-group-groups c = rw (le-ltb _ _ c.if-group-groups.false)
