use mathlib.Core.Path.{refl}
use native.Mathlib.Omega.{arith}
use Rattle.buffers.proofs.Build.{filled_none, filled_more}
use Rattle.packing_codes.specs.Columns.{rules as column_rules}
use Rattle.packing_codes.proofs.code_rules.Goals as goal

pub loop-i-init : goal.loop-i-init
loop-i-init c = filled_none _ _

pub loop-i-preserved : goal.loop-i-preserved
unfolding column_rules
loop-i-preserved c =
    let l = c.loop-i in
    filled_more _ c.args.rows.now l.i l.rows _ (omega arith) l.invariant refl
