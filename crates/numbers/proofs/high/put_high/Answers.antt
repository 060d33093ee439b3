use Rattle.numbers.proofs.Loops.{stored-none, stored_more}
use Rattle.numbers.proofs.high.put_high.Goals as goal

pub loop-left-init : goal.loop-left-init
loop-left-init c = stored-none _ _ _ _

pub loop-left-preserved : goal.loop-left-preserved
loop-left-preserved c = stored_more _ _ _ _ _ _ _ c.requires c.loop-left-test.true c.loop-left.invariant
