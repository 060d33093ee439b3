-- `layouts::legal` meets its contract. Assumes nothing.
use borrow.Author.Rules.{rules}
use Rattle.rules.specs.Layout.{legal_layout}
use Rattle.layouts.proofs.legal.Goals as goal

pub returns-then-layout-le65535 : goal.returns-then-layout-le65535
unfolding legal_layout
returns-then-layout-le65535 c = search rules

pub returns-else-layout-le65535 : goal.returns-else-layout-le65535
unfolding legal_layout
returns-else-layout-le65535 c = search rules
