use mathlib.Core.Path.{◌∙◌}
use Prim.Native.Nat.{◌+◌, ◌-◌, ◌*◌}
use native.Mathlib.Omega.{arith}
use borrow.Author.Rules.{rules}
use Rattle.buffers.proofs.Build.{back-width}
use Rattle.buffers.proofs.Blocks.{blocked_none, blocked_more, blocked_exact}
use Rattle.rules.specs.Factor.{all_factors}
use Rattle.rules.proofs.LentRows.{next-ends}
use Rattle.rules.proofs.Made.{factors-size}
use Rattle.factors.proofs.FiniteLaws.{part-finite}
use Rattle.factors.proofs.calculate_scale_factors.Invariants.{factors_at}
use Rattle.factors.proofs.calculate_scale_factors.Goals as goal

pub loop-c-init : goal.loop-c-init
loop-c-init c = blocked_none _ 128 _

pub channel_factors-requires-clause-all_finite : goal.channel_factors-requires-clause-all_finite
channel_factors-requires-clause-all_finite c = let a = c.loop-c.c * 1024 in part-finite a (a + 1024 - a) c.args.spectra.now c.requires.all_finite

pub loop-c-preserved : goal.loop-c-preserved
loop-c-preserved c =
    let l = c.args.layout in
    let h = c.loop-c-test.true in
    blocked_more (factors_at l c.args.spectra.now) 128 l.channels c.args.factors.now (λ i h. factors-size _ _) c.loop-c.c c.loop-c.factors
    h c.loop-c.invariant c.channel_factors.new.factors (next-ends 128 _ _ _ h c.requires.spectra_len.1)
    (c.channel_factors.ensures ∙ rw (back-width (c.loop-c.c * 1024) 1024, c.coded_count.ensures.0))

pub returns : goal.returns
unfolding all_factors
returns c = blocked_exact _ 128 c.args.factors.now c.loop-c.c _ _ (search rules) (omega arith) (omega arith) c.loop-c.invariant
