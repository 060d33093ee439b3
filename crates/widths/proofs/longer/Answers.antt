use mathlib.Core.Path.{refl}
use Prim.Native.Nat.{ℕ}
use native.Mathlib.Omega.{arith}
use lib.ListN.{replicate}
use Rattle.buffers.proofs.Build.{filled_none, filled_more, filled-all}
use Rattle.rules.specs.Width.{near}
use Rattle.widths.proofs.longer.Goals as goal

pub loop-i-init : goal.loop-i-init
loop-i-init c = filled_none _ _

pub loop-i-preserved : goal.loop-i-preserved
unfolding near
loop-i-preserved c = filled_more _ (replicate {A = ℕ} 5 0) _ _ _ (omega arith) c.loop-i.invariant (rw (c.bits_at.ensures.0, c.distance-z.ensures) refl)

pub returns : goal.returns
returns c = filled-all _ (replicate {A = ℕ} 5 0) c.loop-i.i _ _ refl (omega arith) (omega arith) c.loop-i.invariant
