use mathlib.Core.Path.{◌≡◌, sym, ap₂}
use mathlib.Core.Bool.{◌&&◌}
use native.Mathlib.Numerals.{add-one}
use native.Mathlib.Omega.{arith}
use Rattle.buffers.specs.Walk.{every}
use Rattle.buffers.proofs.Every.{every-none}
use Rattle.band_counts.specs.Counts.{eight_within}
use Rattle.band_counts.proofs.eight.all_within.Goals as goal

pub loop-i-init : goal.loop-i-init
loop-i-init c = sym (every-none _)

pub loop-i-preserved : goal.loop-i-preserved
unfolding every
loop-i-preserved c = rw (add-one c.loop-i.i) (ap₂ ◌&&◌ c.loop-i.invariant c.is_within-all.ensures)

pub returns : goal.returns
unfolding eight_within
returns c = let e : c.loop-i.i ≡ 8 = omega arith in rw e at c.loop-i.invariant
