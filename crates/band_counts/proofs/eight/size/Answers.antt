-- `band_counts::eight::size` meets its contract, by `abs-of_bits`; what owning an `f32` tells is handed on. Assumes nothing.
use mathlib.Core.Path.{sym, subst}
use lib.Dec.{T}
use lib.Ieee.{binary32, fits}
use Rattle.floats.proofs.AbsLaws.{abs-of_bits, abs_no_nan}
use Rattle.within.proofs.ZoneLaws.{within-number}
use Rattle.band_counts.proofs.eight.size.Lts as lts
use Rattle.band_counts.proofs.eight.size.Reads as reads
use Rattle.band_counts.proofs.eight.size.Goals as goal

-- what owning an `f32` tells
single : (c : lts.Start reads.Pre reads.Post) → T (fits binary32 c.args.x)
single c = subst T (sym c.well_formed.0.1) tt

pub float_to_bits-result : goal.float_to_bits-result
float_to_bits-result c = within-number c.args.x c.requires

pub float_from_bits-result : goal.float_from_bits-result
float_from_bits-result c = abs_no_nan binary32 c.args.x (single c) (within-number c.args.x c.requires)

pub returns : goal.returns
returns c = (abs-of_bits binary32 c.args.x (single c) (within-number c.args.x c.requires), single c)
