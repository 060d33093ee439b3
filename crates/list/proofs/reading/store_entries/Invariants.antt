-- `list::reading::store_entries` meets its contract. The invariant: the first i entries are stored. Assumes nothing.
use mathlib.Core.List.{List}
use Prim.Native.Nat.{ℕ}
use Rattle.buffers.proofs.Blocks.{Blocked}
use Rattle.rules_files.specs.List.{entry_numbers, entry_in}
use Rattle.list.proofs.reading.store_entries.Given as goal

abbrev pub numbers_at : List ℕ → ℕ → List ℕ
numbers_at list i = entry_numbers (entry_in list i)

abbrev pub invariant-loop-i : goal.invariant-loop-i
invariant-loop-i l = Blocked (numbers_at l.list) 4 l.initial.entries l.i l.entries
