use mathlib.Core.Path.{refl, ◌∙◌}
use native.Mathlib.Omega.{arith}
use Rattle.rules_stereo.specs.Mixed.{channels_mixed}
use Rattle.stereo_mixing.proofs.Steps.{channels_more, mixed-none, mixed-all}
use Rattle.stereo_mixing.proofs.encode_intensity_stereo.Goals as goal

pub returns-then-layout-eq0 : goal.returns-then-layout-eq0
returns-then-layout-eq0 c = mixed-none _ _ c.if-layout-eq0.true

pub loop-c-init : goal.loop-c-init
unfolding channels_mixed
loop-c-init c = (refl, refl, refl)

pub loop-c-preserved : goal.loop-c-preserved
loop-c-preserved c = (
  c.mix_channel.auto.spectra ∙ c.loop-c.invariant.0,
  c.mix_channel.auto.intensities ∙ c.loop-c.invariant.1,
  channels_more _ _ _ _ _ c.loop-c.invariant.2 c.mix_channel.ensures,
)

pub shape_of-spectra : goal.shape_of-spectra
shape_of-spectra c = c.loop-c.invariant.0

pub shape_of-intensities : goal.shape_of-intensities
shape_of-intensities c = c.loop-c.invariant.1

pub returns : goal.returns
returns c = mixed-all _ _ _ _ c.if-layout-eq0.false (omega arith) c.loop-c.invariant.2
