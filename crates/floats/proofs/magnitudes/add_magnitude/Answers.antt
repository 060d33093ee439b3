-- `floats::magnitudes::add_magnitude` meets its contract. Assumes nothing.
use mathlib.Core.Path.{sym, ap, subst}
use lib.Dec.{T}
use lib.Ieee.{binary32, add, fits, of_bits}
use Rattle.floats.proofs.SumRounded.{abs-above-zero, up_to_zero}
use Rattle.floats.proofs.magnitudes.add_magnitude.Lts as lts
use Rattle.floats.proofs.magnitudes.add_magnitude.Reads as reads
use Rattle.floats.proofs.magnitudes.add_magnitude.Goals as goal

-- what owning an `f32` tells: the format holds it
held : (c : lts.Start reads.Pre reads.Post) → T (fits binary32 c.args.x)
held c = subst T (sym c.well_formed.1.0.1) tt

pub returns-then-x : goal.returns-then-x
unfolding of_bits
returns-then-x c = ap (add binary32 c.args.s) (abs-above-zero c.args.x c.if-x.true)

pub returns-else-x : goal.returns-else-x
unfolding of_bits
returns-else-x c = ap (add binary32 c.args.s) (up_to_zero c.args.x (held c.before) c.if-x.false)
