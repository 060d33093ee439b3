-- `list::summing::sum_entries` meets its contract. The invariant: level, pairs and bits are those of the entries so far. Assumes nothing.
use mathlib.Core.Path.{◌≡◌}
use mathlib.Core.List.{List}
use Prim.Native.Nat.{ℕ, ◌*◌, ◌≤◌}
use Rattle.buffers.specs.Walk.{sum_to}
use Rattle.rules_files.specs.List.{entry_at, entries_of, max_to}
use Rattle.rules_files.specs.declared.list.Entry.{Entry}
use Rattle.list.proofs.summing.sum_entries.Given as goal

abbrev pub its : List ℕ → ℕ → Entry
its list i = entry_at (entries_of list) i

abbrev pub invariant-loop-i : goal.invariant-loop-i
invariant-loop-i l =
    (l.level ≡ max_to (λ j. (its l.list j).level) l.i) × (l.pairs ≡ max_to (λ j. (its l.list j).pairs) l.i) × (l.bits ≡ sum_to (λ j. (its l.list j).bits) l.i)
    × (l.bits ≤ l.i * 4294967295)
