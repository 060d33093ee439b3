-- `band_counts::eight::is_within` meets its contract. Assumes nothing.
use mathlib.Core.Path.{refl}
use lib.Ieee.{of_bits, neg}
use Rattle.within.specs.Within.{within_b}
use Rattle.band_counts.proofs.eight.is_within.Goals as goal

pub returns : goal.returns
unfolding within_b of_bits neg
returns c = refl
