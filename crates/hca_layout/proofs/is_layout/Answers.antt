-- `hca_layout::is_layout` meets its contract. Assumes nothing.
use borrow.Author.Rules.{rules}
use Rattle.hca_layout.specs.Layouts.{has_kinds, is_layout}
use Rattle.hca_layout.proofs.is_layout.Goals as goal

pub returns-then-has_kinds : goal.returns-then-has_kinds
unfolding is_layout has_kinds
returns-then-has_kinds c = search rules

pub returns-else-has_kinds : goal.returns-else-has_kinds
unfolding is_layout has_kinds
returns-else-has_kinds c = search rules
