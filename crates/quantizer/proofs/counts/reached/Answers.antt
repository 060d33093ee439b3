-- `quantizer::counts::reached` meets its contract. Assumes nothing.
use Prim.Native.Nat.{zero-le}
use native.Mathlib.Nat.{le_refl}
use Rattle.quantizer.proofs.counts.reached.Goals as goal

pub returns-then-mark-value : goal.returns-then-mark-value
returns-then-mark-value c = (rw c.if-mark-value.true, le_refl _)

pub returns-else-mark-value : goal.returns-else-mark-value
returns-else-mark-value c = (rw c.if-mark-value.false, zero-le)
