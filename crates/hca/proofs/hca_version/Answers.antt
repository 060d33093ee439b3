-- `hca::hca_version` meets its contract: the number is computed. Assumes nothing.
use mathlib.Core.Path.{refl}
use Rattle.hca.specs.Version.{version}
use Rattle.hca.proofs.hca_version.Goals as goal

pub returns : goal.returns
unfolding version
returns c = refl
