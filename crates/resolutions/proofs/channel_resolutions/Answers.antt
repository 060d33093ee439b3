use native.Mathlib.Omega.{arith}
use Rattle.buffers.proofs.Build.{filled_none, filled_more, filled-all}
use Rattle.rules.specs.Resolution.{band_resolution, resolution_at, channel_resolutions}
use Rattle.resolutions.proofs.channel_resolutions.Goals as goal

pub loop-b-init : goal.loop-b-init
loop-b-init c = filled_none _ _

pub loop-b-preserved : goal.loop-b-preserved
unfolding band_resolution resolution_at
loop-b-preserved c = filled_more _ c.args.resolutions.now _ _ _ (omega arith) c.loop-b.invariant c.band_resolution.ensures.0

pub returns : goal.returns
unfolding channel_resolutions
returns c = filled-all _ c.args.resolutions.now c.loop-b.b 128 _ c.requires.factors_len.1 (omega arith) (omega arith) c.loop-b.invariant
