use mathlib.Core.Path.{refl, ◌∙◌}
use lib.ListN.{length-set}
use Rattle.rules_stereo.specs.Mixed.{subframes_mixed}
use Rattle.stereo_mixing.proofs.Turns.{subframe_more}
use Rattle.stereo_mixing.proofs.pair.mix_pair.Goals as goal

pub loop-s-init : goal.loop-s-init
unfolding subframes_mixed
loop-s-init c = (refl, refl, refl, refl)

pub loop-s-preserved : goal.loop-s-preserved
loop-s-preserved c = (
  c.loop-s.invariant.0,
  c.mix_stereo_bands.auto.pair ∙ c.loop-s.invariant.1,
  simp length-set c.loop-s.invariant.2,
  subframe_more _ _ _ _ _ _ _ _ _ c.loop-s.invariant.0 c.loop-s.invariant.3 c.stereo_energy-e.ensures
      c.quantize_intensity-q.ensures c.mix_stereo_bands.ensures,
)
