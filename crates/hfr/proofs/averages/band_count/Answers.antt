-- `hfr::averages::band_count` meets its contract. Assumes nothing.
use native.Mathlib.Omega.{arith}
use native.Mathlib.Nat.{suc-mul}
use Rattle.hfr.specs.Sums.{band_count}
use Rattle.hfr.proofs.averages.band_count.Goals as goal

pub returns : goal.returns
unfolding band_count
returns c = (omega (arith, suc-mul c.args.group c.args.g), omega (arith, suc-mul c.args.group c.args.g))
