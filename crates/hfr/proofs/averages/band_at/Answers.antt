-- `hfr::averages::band_at` meets its contract. Assumes nothing.
use native.Mathlib.Omega.{arith}
use Rattle.hfr.specs.Sums.{band_at}
use Rattle.hfr.proofs.averages.band_at.Goals as goal

pub returns : goal.returns
unfolding band_at
returns c = (c.min.ensures, omega arith)
