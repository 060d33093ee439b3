-- `resolutions::noise_curve::plain_curve` meets its contract. Assumes nothing.
use mathlib.Core.Path.{refl}
use Rattle.rules.specs.Tables.{resolution_curve}
use Rattle.resolutions.specs.Stretched.{stretched_curve}
use Rattle.resolutions.proofs.noise_curve.plain_curve.Goals as goal

pub returns : goal.returns
unfolding stretched_curve resolution_curve
returns c = record { table = refl }
