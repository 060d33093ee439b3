-- `band_counts::tables::low_of` meets its contract: the column by one computed test. Assumes nothing.
use lib.Ieee.{of_bits, nan}
use Rattle.within.specs.Zones.{low_pattern, zone_low}
use Rattle.buffers.specs.Walk.{build}
use Rattle.buffers.proofs.Build.{build-at}
use Rattle.band_counts.proofs.tables.low_of.Goals as goal

pub returns : goal.returns
unfolding build zone_low low_pattern of_bits
returns c = build-at zone_low 8 c.args.k nan c.requires
