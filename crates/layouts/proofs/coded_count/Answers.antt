-- `layouts::coded_count` meets its contract. Assumes nothing.
use native.Mathlib.Omega.{arith}
use mathlib.Core.Path.{sym, ◌∙◌}
use Rattle.rules.specs.Layout.{coded_count_at, secondary_at}
use Rattle.layouts.proofs.coded_count.Goals as goal

pub returns-then-is_secondary : goal.returns-then-is_secondary
unfolding coded_count_at secondary_at
returns-then-is_secondary c = (rw (sym c.is_secondary.ensures ∙ c.if-is_secondary.true), omega arith)

pub returns-else-is_secondary : goal.returns-else-is_secondary
unfolding coded_count_at secondary_at
returns-else-is_secondary c = (rw (sym c.is_secondary.ensures ∙ c.if-is_secondary.false) c.start.ensures.0, c.start.ensures.1)
