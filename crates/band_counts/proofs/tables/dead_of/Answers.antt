-- `band_counts::tables::dead_of` meets its contract: the column by one computed test. Assumes nothing.
use lib.Ieee.{of_bits, nan}
use Prim.Native.Nat.{◌+◌}
use lib.ListN.{get_or}
use Rattle.rules.specs.Tables.{dead_zone_table}
use Rattle.buffers.specs.Walk.{build}
use Rattle.buffers.proofs.Build.{build-at}
use Rattle.band_counts.proofs.tables.dead_of.Goals as goal

pub returns : goal.returns
unfolding build dead_zone_table of_bits
returns c = build-at (λ k. get_or dead_zone_table (k + 8) nan) 8 c.args.k nan c.requires
