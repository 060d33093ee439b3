-- `widths::deltas::reach` meets its contract. Assumes nothing.
use native.Mathlib.Omega.{arith}
use Rattle.widths.proofs.Sizes.{shifted}
use Rattle.widths.proofs.deltas.reach.Goals as goal

pub overflow_sub-result-2 : goal.overflow_sub-result-2
overflow_sub-result-2 c = omega (arith, shifted c.args.d (omega arith) (omega arith))

pub returns : goal.returns
returns c = let s = shifted c.args.d (omega arith) (omega arith) in (omega arith, omega arith)
