-- The words of the prefix tables: one test shows that none begins another. Assumes nothing.
use mathlib.Core.List.{List, [], ◌∷◌}
use mathlib.Core.Bool.{Bool, true, false, not, ◌&&◌, ◌||◌}
use mathlib.Core.Option.{Option, none, some}
use Prim.Native.Nat.{ℕ, zero, suc}
use lib.Dec.{T}
use Rattle.bits.specs.Bits.{bits}
use Rattle.rules.specs.Format.{strip}
use Rattle.rules.specs.Tables.{spectrum_bits, spectrum_value}
use Rattle.rules.specs.Signed.{held_z}
use Rattle.rules.specs.Code.{code_place}
use Rattle.rules.specs.Fields.{small_bits}
use Rattle.rules.specs.Reading.{codes_to}

abbrev pub is : {A : Type 0} → Option A → Bool
is none = false
is (some a) = true

-- one of the two begins the other
abbrev pub clash : List Bool → List Bool → Bool
clash u v = is (strip u v) || is (strip v u)

abbrev pub clashless : {A : Type 0} → (A → List Bool) → A → List A → Bool
clashless w c [] = true
clashless w c (d ∷ ds) = not (clash (w c) (w d)) && clashless w c ds

abbrev pub free : {A : Type 0} → (A → List Bool) → List A → Bool
free w [] = true
free w (c ∷ cs) = clashless w c cs && free w cs

-- a test at each number below n
abbrev pub below : (ℕ → Bool) → ℕ → Bool
below f zero = true
below f (suc n) = f n && below f n

-- THE TABLES: at each resolution below 8 no word of the code begins another
pub words_free : T (below (λ r. free (small_bits r) (codes_to r)) 8)
unfolding small_bits code_place held_z spectrum_bits spectrum_value bits strip
words_free = tt
