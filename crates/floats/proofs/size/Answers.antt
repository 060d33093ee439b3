-- `floats::size` meets its contract, by `abs-of_bits`; what owning an `f32` tells is handed on. Assumes nothing.
use mathlib.Core.Path.{sym, subst}
use lib.Dec.{T}
use lib.Ieee.{binary32, fits}
use Rattle.floats.proofs.AbsLaws.{abs-of_bits, abs_no_nan}
use Rattle.floats.proofs.size.Lts as lts
use Rattle.floats.proofs.size.Reads as reads
use Rattle.floats.proofs.size.Goals as goal

-- what owning an `f32` tells: the format holds it
held : (c : lts.Start reads.Pre reads.Post) → T (fits binary32 c.args.x)
held c = subst T (sym c.well_formed.0.1) tt

pub float_to_bits-result : goal.float_to_bits-result
float_to_bits-result c = c.requires

pub float_from_bits-result : goal.float_from_bits-result
float_from_bits-result c = abs_no_nan binary32 c.args.x (held c) c.requires

pub returns : goal.returns
returns c = (abs-of_bits binary32 c.args.x (held c) c.requires, held c)
