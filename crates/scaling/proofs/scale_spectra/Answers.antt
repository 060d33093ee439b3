use mathlib.Core.Path.{◌∙◌}
use Prim.Native.Nat.{◌*◌}
use native.Mathlib.Omega.{arith}
use borrow.Author.Rules.{rules}
use Rattle.buffers.proofs.Build.{back-width}
use Rattle.buffers.proofs.Blocks.{blocked_none, blocked_more, blocked_exact}
use Rattle.rules.specs.Scaling.{all_scaled}
use Rattle.rules.proofs.LentRows.{next-ends}
use Rattle.rules.proofs.Made.{scaled-size}
use Rattle.scaling.proofs.scale_spectra.Invariants.{scaled_at}
use Rattle.scaling.proofs.scale_spectra.Goals as goal

pub loop-c-init : goal.loop-c-init
loop-c-init c = blocked_none _ 1024 _

pub loop-c-preserved : goal.loop-c-preserved
loop-c-preserved c =
    let h = c.loop-c-test.true in
    blocked_more (scaled_at c.args.layout c.args.spectra.now c.args.factors.now) 1024 c.args.layout.channels c.args.scaled.now
    (λ i h. scaled-size _ _ _) c.loop-c.c c.loop-c.scaled
    h c.loop-c.invariant c.scale_channel.new.scaled (next-ends 1024 _ _ _ h c.requires.spectra_len.2)
    (c.scale_channel.ensures ∙ rw (back-width (c.loop-c.c * 1024) 1024, back-width (c.loop-c.c * 128) 128, c.coded_count.ensures.0))

pub returns : goal.returns
unfolding all_scaled
returns c = blocked_exact _ 1024 c.args.scaled.now c.loop-c.c _ _ (search rules) (omega arith) (omega arith) c.loop-c.invariant
