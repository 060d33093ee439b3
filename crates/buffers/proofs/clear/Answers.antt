use borrow.Author.Rules.{rules}
use Rattle.buffers.proofs.Build.{filled_none, filled_more, filled-same}
use Rattle.buffers.proofs.clear.Goals as goal

pub loop-x-init : goal.loop-x-init
loop-x-init g c = filled_none _ _

pub loop-x-preserved : goal.loop-x-preserved
loop-x-preserved g c = filled_more _ c.args.s.now _ _ _ (search rules) c.loop-x.invariant (search rules)

pub returns : goal.returns
returns g c = filled-same _ c.args.s.now c.loop-x.x-index _ c.loop-x-test.false (search rules) c.loop-x.invariant
