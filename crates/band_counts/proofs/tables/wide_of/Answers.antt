-- `band_counts::tables::wide_of` meets its contract: the column by one computed test. Assumes nothing.
use Prim.Native.Nat.{◌+◌, ◌*◌}
use Rattle.rules.specs.Tables.{max_bit_table}
use Rattle.rules.specs.Code.{magnitude_bits}
use Rattle.buffers.specs.Walk.{build}
use Rattle.buffers.proofs.Build.{build-at}
use Rattle.band_counts.proofs.tables.wide_of.Goals as goal

pub returns : goal.returns
unfolding build magnitude_bits max_bit_table
returns c = build-at (λ k. 8 * magnitude_bits (k + 8)) 8 c.args.k 0 c.requires
