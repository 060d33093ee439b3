-- `band_counts::tables::most_of` meets its contract: the column by one computed test. Assumes nothing.
use Prim.Native.Nat.{◌*◌}
use Rattle.quantizer.specs.Marks.{high_at}
use Rattle.buffers.specs.Walk.{build}
use Rattle.buffers.proofs.Build.{build-at}
use Rattle.band_counts.proofs.tables.most_of.Goals as goal

pub returns : goal.returns
unfolding build high_at
returns c = build-at (λ k. 8 * high_at k) 8 c.args.k 0 c.requires
