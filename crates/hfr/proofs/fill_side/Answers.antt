use native.Mathlib.Omega.{arith}
use borrow.Author.Rules.{rules}
use Rattle.buffers.proofs.Blocks.{blocked_none, blocked_more, blocked_exact}
use Rattle.rules.specs.Hfr.{all_side, side_of}
use Rattle.rules.proofs.LentRows.{next-ends}
use Rattle.rules.proofs.Made.{side-size}
use Rattle.hfr.proofs.fill_side.Goals as goal

pub loop-c-init : goal.loop-c-init
loop-c-init c = blocked_none _ 8 _

pub loop-c-preserved : goal.loop-c-preserved
loop-c-preserved c =
    let a = c.args in
    let h = c.loop-c-test.true in
    blocked_more (side_of a.layout a.spectra.now a.scaled.now a.intensities.now) 8 a.layout.channels a.side.now
    (λ i _. side-size a.layout i _ _ _) c.loop-c.c c.loop-c.side h c.loop-c.invariant c.channel_side.new.side
    (next-ends 8 _ _ _ h c.requires.intensities_len.1)
    c.channel_side.ensures

pub returns : goal.returns
unfolding all_side
returns c = blocked_exact _ 8 c.args.side.now c.loop-c.c _ _ (search rules) (omega arith) (omega arith) c.loop-c.invariant
