use mathlib.Core.Path.{refl}
use native.Mathlib.Omega.{arith}
use Rattle.buffers.proofs.Build.{filled_none, filled_more, filled-all}
use Rattle.factors.proofs.fill_tops.Goals as goal

pub loop-b-init : goal.loop-b-init
loop-b-init c = filled_none _ _

pub loop-b-preserved : goal.loop-b-preserved
loop-b-preserved c = filled_more _ c.args.tops.now _ _ _ (omega arith) c.loop-b.invariant c.top_of.ensures

pub returns : goal.returns
returns c = filled-all _ c.args.tops.now c.loop-b.b _ _ refl (omega arith) (omega arith) c.loop-b.invariant
