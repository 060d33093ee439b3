use mathlib.Core.Path.{refl}
use native.Mathlib.Nat.{sub_self}
use lib.Ieee.{of_bits}
use lib.ListN.{length-set}
use Rattle.rules_stereo.specs.Mixed.{bands_mixed}
use Rattle.stereo_mixing.proofs.Turns.{bands_more}
use Rattle.stereo_mixing.proofs.pair.mix_stereo_bands.Goals as goal

pub loop-i-init : goal.loop-i-init
unfolding bands_mixed
loop-i-init c = (refl, rw sub_self)

pub loop-i-preserved : goal.loop-i-preserved
unfolding of_bits
loop-i-preserved c = (simp length-set c.loop-i.invariant.0, bands_more _ _ _ _ _ c.loop-i.auto.i c.loop-i.invariant.1)
