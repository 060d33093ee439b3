use mathlib.Core.Path.{◌≡◌, sym}
use native.Mathlib.Omega.{arith}
use Rattle.buffers.proofs.Scan.{sum-none, sum-turn}
use Rattle.band_counts.specs.Counts.{eight_bits}
use Rattle.band_counts.proofs.marked.marked_small.Goals as goal

pub loop-i-init : goal.loop-i-init
loop-i-init c = (sym (sum-none _), omega arith)

pub loop-i-preserved : goal.loop-i-preserved
loop-i-preserved c =
    let l = c.loop-i in
    let b = c.small_bits-count in
    (sum-turn _ l.i l.count b.result l.invariant.0 b.ensures.0, omega (arith, l.invariant.1, b.ensures.1))

pub returns : goal.returns
unfolding eight_bits
returns c = let l = c.loop-i in let e : l.i ≡ 8 = omega arith in (rw e at l.invariant.0, omega (arith, e, l.invariant.1))
