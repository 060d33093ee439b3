-- `hca_layout::layout_of` meets its contract. Assumes nothing.
use borrow.Author.Rules.{rules}
use Rattle.hca_layout.specs.Layouts.{layout_of}
use Rattle.hca_layout.proofs.layout_of.Goals as goal

pub returns : goal.returns
unfolding layout_of
returns c = search rules
