-- `resolutions::noise_curve::curve` meets its contract. Assumes nothing.
use mathlib.Core.Path.{refl}
use Rattle.rules.specs.Tables.{resolution_curve}
use Rattle.buffers.proofs.Tests.{all_le, get_d_le}
use Rattle.resolutions.proofs.noise_curve.curve.Goals as goal

pub returns : goal.returns
unfolding resolution_curve all_le
returns c = (refl, get_d_le 15 resolution_curve refl c.args.at)
