-- `scaling::fill_entries` meets its contract. The invariant: the first b are stored. Assumes nothing.
use Rattle.buffers.proofs.Build.{Filled}
use Rattle.scaling.specs.Bands.{entry_at}
use Rattle.scaling.proofs.fill_entries.Given as goal

abbrev pub invariant-loop-b : goal.invariant-loop-b
invariant-loop-b l = Filled (entry_at l.used) l.initial.entries l.b l.entries
