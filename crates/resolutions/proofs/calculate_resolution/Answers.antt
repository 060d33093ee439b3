-- `resolutions::calculate_resolution` meets its contract. Assumes nothing.
use native.Mathlib.Omega.{arith}
use Rattle.rules.specs.Resolution.{resolution}
use Rattle.resolutions.proofs.calculate_resolution.Goals as goal

pub returns : goal.returns
unfolding resolution
returns c = (c.resolution_in.ensures.0, omega (arith, c.resolution_in.ensures.1))
