use Prim.Native.Nat.{◌*◌}
use native.Mathlib.Omega.{arith}
use borrow.Author.Rules.{rules}
use Rattle.buffers.proofs.Build.{back-width}
use Rattle.rules.specs.Layout.{kind_at, kinds_of}
use Rattle.rules.specs.Record.{chan_of}
use Rattle.rules.specs.Fields.{channel_fields}
use Rattle.emission.proofs.Loops.{sent_none, sent_more, sent_all}
use Rattle.rules_formats.proofs.Written.{each-blocks}
use Rattle.packing_channels.proofs.write_channels.Goals as goal

pub loop-c-init : goal.loop-c-init
loop-c-init c = sent_none _ _ _ _ (search rules)

pub loop-c-preserved : goal.loop-c-preserved
loop-c-preserved c =
    let l = c.loop-c in
    let w = c.write_channel-at.ensures in
    sent_more _ _ _ _ l.invariant (rw (back-width (l.c * 128) 128, back-width (l.c * 8) 8) at w.0) w.1

pub shape_of-payload : goal.shape_of-payload
shape_of-payload c = c.loop-c.invariant.run.same

pub returns : goal.returns
unfolding kinds_of
returns c =
    let a = c.args in
    let l = c.loop-c in
    let blocks = each-blocks (channel_fields a.layout) (kind_at a.layout) (chan_of a.layout a.factors.now a.side.now) a.layout.channels in
    (sent_all _ _ _ _ blocks (omega arith) l.invariant, omega (arith, l.invariant.bound))
