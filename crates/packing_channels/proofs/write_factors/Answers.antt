use native.Mathlib.Omega.{arith}
use borrow.Author.Rules.{rules}
use Rattle.emission.proofs.Loops.{sent_none, sent_more, sent_all}
use Rattle.packing_channels.proofs.Walks.{factors-blocks}
use Rattle.packing_channels.proofs.write_factors.Goals as goal

pub loop-i-init : goal.loop-i-init
loop-i-init c = sent_none _ _ _ _ (search rules)

pub loop-i-preserved : goal.loop-i-preserved
loop-i-preserved c =
    let w = c.write_factor-at.ensures in
    sent_more _ _ _ _ c.loop-i.invariant w.0 w.1

pub shape_of-payload : goal.shape_of-payload
shape_of-payload c = c.loop-i.invariant.run.same

pub returns : goal.returns
returns c =
    let a = c.args in
    let l = c.loop-i in (
      sent_all _ _ _ _ (factors-blocks a.width a.factors.now a.coded (omega arith) (omega arith)) (omega arith) l.invariant,
      omega (arith, l.invariant.bound),
    )
