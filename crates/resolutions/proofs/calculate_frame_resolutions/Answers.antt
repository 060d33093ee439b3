use mathlib.Core.Path.{◌∙◌}
use Prim.Native.Nat.{◌*◌}
use native.Mathlib.Omega.{arith}
use borrow.Author.Rules.{rules}
use Rattle.buffers.proofs.Build.{back-width}
use Rattle.buffers.proofs.Blocks.{blocked_none, blocked_more, blocked_exact}
use Rattle.rules.specs.Resolution.{all_resolutions}
use Rattle.rules.proofs.LentRows.{next-ends}
use Rattle.rules.proofs.Bands.{resolutions_at, channel_size}
use Rattle.resolutions.proofs.calculate_frame_resolutions.Goals as goal

pub loop-c-init : goal.loop-c-init
loop-c-init c = blocked_none _ 128 _

pub loop-c-preserved : goal.loop-c-preserved
loop-c-preserved c =
    let a = c.args in
    let h = c.loop-c-test.true in
    blocked_more (resolutions_at a.layout a.level a.boundary a.factors.now) 128 a.layout.channels a.resolutions.now
    (λ i q. channel_size _ _ _ _ _) c.loop-c.c c.loop-c.resolutions h c.loop-c.invariant
    c.channel_resolutions.new.resolutions (next-ends 128 _ _ _ h c.requires.factors_len.1)
    (c.channel_resolutions.ensures ∙ rw (back-width (c.loop-c.c * 128) 128, c.coded_count.ensures.0))

pub returns : goal.returns
unfolding all_resolutions
returns c = blocked_exact _ 128 c.args.resolutions.now c.loop-c.c _ _ (search rules) (omega arith) (omega arith) c.loop-c.invariant
