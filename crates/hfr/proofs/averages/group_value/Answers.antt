-- `hfr::averages::group_value` meets its contract. Assumes nothing.
use mathlib.Core.Path.{ap}
use lib.Ieee.{binary32, mul, of_bits}
use Rattle.rules.specs.Hfr.{group_value}
use Rattle.hfr.proofs.averages.group_value.Goals as goal

pub returns-then-source : goal.returns-then-source
unfolding group_value of_bits
returns-then-source c = rw c.if-source.true (ap (mul binary32 c.args.spectrum) c.smaller.ensures)

pub returns-else-source : goal.returns-else-source
unfolding group_value of_bits
returns-else-source c = rw c.if-source.false
