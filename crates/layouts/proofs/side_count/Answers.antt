-- `layouts::side_count` meets its contract. Assumes nothing.
use native.Mathlib.Omega.{arith}
use mathlib.Core.Path.{sym, ◌∙◌}
use Rattle.rules.specs.Layout.{side_count_at, secondary_at}
use Rattle.layouts.proofs.side_count.Goals as goal

pub returns-then-is_secondary : goal.returns-then-is_secondary
unfolding side_count_at secondary_at
returns-then-is_secondary c = (rw (sym c.is_secondary.ensures ∙ c.if-is_secondary.true), omega arith)

pub returns-else-is_secondary : goal.returns-else-is_secondary
unfolding side_count_at secondary_at
returns-else-is_secondary c = (rw (sym c.is_secondary.ensures ∙ c.if-is_secondary.false) c.groups.ensures.0, c.groups.ensures.1)
