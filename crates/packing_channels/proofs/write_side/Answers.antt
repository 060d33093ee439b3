use native.Mathlib.Omega.{arith}
use borrow.Author.Rules.{rules}
use Rattle.bits.specs.Bits.{bits}
use Rattle.emission.proofs.Loops.{sent_none, sent_more, sent_all}
use Rattle.packing_channels.proofs.Walks.{side-blocks}
use Rattle.packing_channels.proofs.write_side.Goals as goal

pub loop-value-init : goal.loop-value-init
loop-value-init c = sent_none _ _ _ _ (search rules)

pub loop-value-preserved : goal.loop-value-preserved
loop-value-preserved c =
    let w = c.write-at.ensures in
    sent_more _ _ _ _ c.loop-value.invariant w.0 (omega arith)

pub shape_of-payload : goal.shape_of-payload
shape_of-payload c = c.loop-value.invariant.run.same

pub returns : goal.returns
returns c =
    let a = c.args in
    let l = c.loop-value in
    (sent_all _ _ _ _ (side-blocks (bits a.width) a.side.now) (omega arith) l.invariant, omega (arith, l.invariant.bound))
