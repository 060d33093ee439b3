-- What a call leaves in longer buffers: what it left in their parts of the stated lengths, and then the rest. Assumes nothing.
use mathlib.Core.Path.{◌≡◌, ap}
use mathlib.Core.List.{List, ◌++◌}
use Prim.Native.Nat.{ℕ}
use lib.IntN.{ℤ}
use lib.ListN.{length, drop}
use Rattle.std.specs.Prelude.{Result}
use Rattle.rules.specs.Reader.{ReaderLent, ReaderLeft, reader_left, reader_overwrite}
use Rattle.rules.specs.declared.RecordDelivery.{RecordDelivery}
use Rattle.rules.specs.declared.ReadRefusal.{ReadRefusal}

-- f, s and n are the parts' lengths
pub parts_laid : (t : ReaderLent) {x : ReaderLeft} (r : Result RecordDelivery ReadRefusal) {F S : List ℕ} {C : List ℤ} {f s n : ℕ} → length F ≡ f → length S ≡ s → length C ≡ n
    → reader_left r F S C ≡ x → reader_left r (F ++ drop f t.factors) (S ++ drop s t.side) (C ++ drop n t.codes) ≡ reader_overwrite t x
parts_laid t r i j k e = rw (← i, ← j, ← k) (ap (reader_overwrite t) e)
