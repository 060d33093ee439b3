use mathlib.Core.Path.{ap}
use Prim.Native.Nat.{◌+◌}
use lib.Ieee.{Float, binary32, add}
use Rattle.floats.specs.Single.{with_eight}
use Rattle.floats.proofs.FoldLaws.{take_more, take_all}
use Rattle.floats.proofs.Average.with_eight.Goals as goal

pub loop-k-preserved : goal.loop-k-preserved
loop-k-preserved c =
    take_more _ _ _ _ _ c.loop-k.k c.loop-k.sum _ c.loop-k-test.true c.loop-k.invariant
    (ap (add binary32 c.loop-k.sum) c.magnitude-sum.ensures)

pub returns : goal.returns
unfolding with_eight
returns c =
    ap (λ (s : Float). record { sum = s; count = c.args.self.count + 8 })
    (take_all _ _ _ _ _ c.loop-k.k c.loop-k.sum c.loop-k-test.false c.loop-k.invariant)
