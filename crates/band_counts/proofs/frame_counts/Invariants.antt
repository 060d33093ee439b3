-- `band_counts::frame_counts` meets its contract. The invariant: the first c channels are stored. Assumes nothing.
use Rattle.buffers.proofs.Blocks.{Blocked}
use Rattle.band_counts.proofs.Entries.{channel_at}
use Rattle.band_counts.proofs.frame_counts.Given as goal

abbrev pub invariant-loop-c : goal.invariant-loop-c
invariant-loop-c l = Blocked (channel_at l.layout l.scaled l.initial.counts) 1024 l.initial.counts l.c l.counts
