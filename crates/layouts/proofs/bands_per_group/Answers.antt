-- `layouts::bands_per_group` meets its contract. Assumes nothing.
use native.Mathlib.Omega.{arith}
use Rattle.rules.specs.Layout.{bands_per_group, ceil_div}
use Rattle.layouts.proofs.bands_per_group.Goals as goal

pub returns : goal.returns
unfolding bands_per_group ceil_div
returns c = (rw (c.div_ceil.ensures, c.start.ensures.0) (omega arith), omega arith)
