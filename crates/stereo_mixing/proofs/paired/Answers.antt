-- `stereo_mixing::paired` meets its contract. The next channel is there, and the kind is looked up. Assumes nothing.
use mathlib.Core.Path.{refl, ◌∙◌}
use borrow.Author.Tests.{le-ltb}
use Rattle.rules.specs.Layout.{kind_at}
use Rattle.stereo_mixing.proofs.Steps.{paired-last, paired_kind, same_primary}
use Rattle.stereo_mixing.proofs.paired.Goals as goal

pub returns-then-c-layout : goal.returns-then-c-layout
unfolding kind_at
returns-then-c-layout c = c.eq.ensures ∙ same_primary _ ∙ paired_kind _ _ _ c.if-c-layout.true refl

pub returns-else-c-layout : goal.returns-else-c-layout
returns-else-c-layout c = le-ltb _ _ c.if-c-layout.false ∙ paired-last _ _ c.if-c-layout.false
