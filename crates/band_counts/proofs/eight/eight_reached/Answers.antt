use mathlib.Core.Path.{◌≡◌, sym}
use native.Mathlib.Omega.{arith}
use Rattle.buffers.proofs.Scan.{sum-none, sum-turn}
use Rattle.band_counts.specs.Counts.{eight_reached}
use Rattle.band_counts.proofs.eight.eight_reached.Goals as goal

pub loop-i-init : goal.loop-i-init
loop-i-init c = (sym (sum-none _), omega arith)

pub loop-i-preserved : goal.loop-i-preserved
loop-i-preserved c =
    let l = c.loop-i in
    (sum-turn _ l.i l.count c.reached-count.result l.invariant.0 c.reached-count.ensures.0, omega (arith, l.invariant.1, c.reached-count.ensures.1))

pub returns : goal.returns
unfolding eight_reached
returns c = let l = c.loop-i in let e : l.i ≡ 8 = omega arith in (rw e at l.invariant.0, omega (arith, e, l.invariant.1))
