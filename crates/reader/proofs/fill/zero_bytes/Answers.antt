-- `zero_bytes` passes bytes that are 0. Assumes nothing.
use mathlib.Core.Path.{◌∙◌}
use native.Mathlib.Omega.{arith}
use Rattle.reader.proofs.Zeros.{byte_zero}
use Rattle.reader.proofs.fill.zero_bytes.Goals as goal

pub loop-i-preserved : goal.loop-i-preserved
loop-i-preserved c = c.loop-i.invariant ∙ byte_zero c.args.part.now c.loop-i.i (omega arith) c.if-part-i-ne0.false
