use borrow.Author.Rules.{rules}
use Rattle.buffers.proofs.Build.{filled_none, filled_more}
use Rattle.hca_layout.specs.Layouts.{channel_at}
use Rattle.hca_layout.proofs.channels_of.Goals as goal

pub loop-i-init : goal.loop-i-init
loop-i-init c = filled_none _ _

pub loop-i-preserved : goal.loop-i-preserved
loop-i-preserved c =
    filled_more (channel_at c.args.kinds.now) _ c.loop-i.i c.loop-i.channel-items _ c.loop-i-test.true c.loop-i.invariant (search rules)
