-- The largest of a run of magnitudes, whichever way it is found. Definitions only.
use Rattle.std.specs.Prelude.{◌≡◌, Bool, false, not, List, ℕ, T, Float}
use Rattle.std.specs.Float.{nan, inf, fin}
use Rattle.floats.specs.Single.{max_f, max_abs, folded}

-- a finite value without a sign
unfoldable pub plain : (x : Float) → Bool
plain nan = false
plain (inf s) = false
plain (fin s m e) = not s

-- t stands for the magnitudes of n values, 128 apart from the i-th on: the larger of s and it is what they make of s one after the other
unfoldable pub Top : (xs : List Float) (i n : ℕ) (t : Float) → Type 0
Top xs i n t = T (plain t) × ((s : Float) → T (plain s) → folded max_abs xs i 128 n s ≡ max_f s t)
