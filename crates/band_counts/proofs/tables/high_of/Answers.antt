-- `band_counts::tables::high_of` meets its contract: the column by one computed test. Assumes nothing.
use lib.Ieee.{of_bits, nan}
use Rattle.within.specs.Zones.{high_pattern, zone_high}
use Rattle.buffers.specs.Walk.{build}
use Rattle.buffers.proofs.Build.{build-at}
use Rattle.band_counts.proofs.tables.high_of.Goals as goal

pub returns : goal.returns
unfolding build zone_high high_pattern of_bits
returns c = build-at zone_high 8 c.args.k nan c.requires
