-- `band_counts::marked::marked_counts` meets its contract. The invariant: the first k entries are stored. Assumes nothing.
use Rattle.buffers.proofs.Build.{Filled}
use Rattle.band_counts.specs.Counts.{entry_of}
use Rattle.band_counts.proofs.marked.marked_counts.Given as goal

abbrev pub invariant-loop-k : goal.invariant-loop-k
invariant-loop-k l = Filled (entry_of l.mode l.e) l.initial.counts l.k l.counts
