use mathlib.Core.Path.{refl}
use native.Mathlib.Omega.{arith}
use Rattle.buffers.proofs.Build.{filled_none, filled_more, filled-all}
use Rattle.scaling.specs.Bands.{entry_at}
use Rattle.scaling.proofs.fill_entries.Goals as goal

pub loop-b-init : goal.loop-b-init
loop-b-init c = filled_none _ _

pub loop-b-preserved : goal.loop-b-preserved
unfolding entry_at
loop-b-preserved c = filled_more _ c.args.entries.now _ _ _ (omega arith) c.loop-b.invariant c.scaling_entry.ensures

pub returns : goal.returns
returns c = filled-all _ c.args.entries.now c.loop-b.b _ _ refl (omega arith) (omega arith) c.loop-b.invariant
