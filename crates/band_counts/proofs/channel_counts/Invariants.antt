-- `band_counts::channel_counts` meets its contract. The invariant: the first b bands are stored. Assumes nothing.
use Rattle.buffers.proofs.Blocks.{Blocked}
use Rattle.band_counts.proofs.Entries.{band_entries}
use Rattle.band_counts.proofs.channel_counts.Given as goal

abbrev pub invariant-loop-b : goal.invariant-loop-b
invariant-loop-b l = Blocked (band_entries l.mode l.scaled) 8 l.initial.counts l.b l.counts
