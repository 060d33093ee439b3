-- `band_counts::eight::reached` meets its contract. Assumes nothing.
use Prim.Native.Nat.{zero-le}
use native.Mathlib.Nat.{le_refl}
use Rattle.band_counts.proofs.eight.reached.Goals as goal

pub returns-then-mark-x : goal.returns-then-mark-x
returns-then-mark-x c = (rw c.if-mark-x.true, le_refl _)

pub returns-else-mark-x : goal.returns-else-mark-x
returns-else-mark-x c = (rw c.if-mark-x.false, zero-le)
