-- `list::writing::put_entries` meets its contract. The invariant: the first i entries are laid. Assumes nothing.
use mathlib.Core.List.{List}
use Prim.Native.Nat.{ℕ}
use Rattle.buffers.proofs.Blocks.{Blocked}
use Rattle.rules_files.specs.List.{entry_bytes, entry_at}
use Rattle.list.proofs.writing.put_entries.Given as goal

abbrev pub bytes_at : List ℕ → ℕ → List ℕ
bytes_at entries i = entry_bytes (entry_at entries i)

abbrev pub invariant-loop-i : goal.invariant-loop-i
invariant-loop-i l = Blocked (bytes_at l.entries) 8 l.initial.bytes l.i l.bytes
