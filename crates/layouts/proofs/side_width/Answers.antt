-- `layouts::side_width` meets its contract. Assumes nothing.
use mathlib.Core.Path.{sym, ◌∙◌}
use native.Mathlib.Omega.{arith}
use Rattle.rules.specs.Layout.{secondary_at}
use Rattle.layouts.proofs.side_width.Goals as goal

pub returns-then-is_secondary : goal.returns-then-is_secondary
unfolding secondary_at
returns-then-is_secondary c = (rw (sym c.is_secondary.ensures ∙ c.if-is_secondary.true), omega arith)

pub returns-else-is_secondary : goal.returns-else-is_secondary
unfolding secondary_at
returns-else-is_secondary c = (rw (sym c.is_secondary.ensures ∙ c.if-is_secondary.false), omega arith)
