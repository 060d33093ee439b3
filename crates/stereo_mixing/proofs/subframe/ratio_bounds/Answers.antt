-- `stereo_mixing::subframe::ratio_bounds` meets its contract. The decimals are the table's patterns. Assumes nothing.
use mathlib.Core.Path.{refl}
use Rattle.rules_stereo.specs.Mixed.{ratio_bounds}
use Rattle.stereo_mixing.proofs.subframe.ratio_bounds.Goals as goal

pub returns : goal.returns
unfolding ratio_bounds
returns c = record { table = refl }
