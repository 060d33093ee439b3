use mathlib.Core.Path.{ap, ◌∙◌}
use lib.Ieee.{of_bits}
use Rattle.floats.specs.Single.{max_f}
use Rattle.floats.proofs.FoldLaws.{take_more, take_all}
use Rattle.floats.proofs.peak.Goals as goal

pub loop-k-preserved : goal.loop-k-preserved
loop-k-preserved c =
    take_more _ _ _ _ _ c.loop-k.k c.loop-k.top _ c.loop-k-test.true c.loop-k.invariant
    (c.larger-top.ensures ∙ ap (max_f c.loop-k.top) c.magnitude.ensures)

pub returns : goal.returns
unfolding of_bits
returns c = take_all _ _ _ _ _ c.loop-k.k c.loop-k.top c.loop-k-test.false c.loop-k.invariant
