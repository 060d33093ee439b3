-- Document 01, **Width**. fs are a channel's coded factors.
use mathlib.Core.List.{List, [], ◌∷◌, foldl}
use Rattle.std.specs.Prelude.{Bool, true, cond, ◌&&◌, ℕ, ◌+◌, ◌-◌, ◌*◌, ◌^◌, leb, ltb, eqb, ℤ, pos, ◌-ℤ◌, nat_abs, length}

-- m = 2^(d-1) - 1
abbrev pub reach_of : (d : ℕ) → ℕ
reach_of d = 2 ^ (d - 1) - 1

abbrev pub delta_of : (previous factor : ℕ) → ℤ
delta_of previous factor = pos factor -ℤ pos previous

-- |delta| is at most m
unfoldable pub near : (d previous factor : ℕ) → Bool
near d previous factor = leb (nat_abs (delta_of previous factor)) (reach_of d)

-- d per later band if the delta is near, else d + 6
unfoldable pub later_cost : (d previous : ℕ) (factors : List ℕ) → ℕ
later_cost d previous [] = 0
later_cost d previous (f ∷ fs) = cond (near d previous f) d (d + 6) + later_cost d f fs

-- what width d in 1..5 costs
unfoldable pub delta_cost : (factors : List ℕ) (d : ℕ) → ℕ
delta_cost [] d = 9
delta_cost (f ∷ fs) d = 9 + later_cost d f fs

-- what each width costs: 0 has 3 bits, 6 has 3 + 6 x coded
unfoldable pub cost : (factors : List ℕ) (width : ℕ) → ℕ
cost factors width = cond (eqb width 0) 3 (cond (eqb width 6) (3 + 6 * length factors) (delta_cost factors width))

unfoldable pub all_zero : (factors : List ℕ) → Bool
all_zero [] = true
all_zero (f ∷ fs) = eqb f 0 && all_zero fs

-- take 6 unless some d costs strictly less; then the smallest d of least cost
unfoldable pub cheaper : (factors : List ℕ) (best d : ℕ) → ℕ
cheaper factors best d = cond (ltb (cost factors d) (cost factors best)) d best

unfoldable pub width : (factors : List ℕ) → ℕ
width factors = cond (all_zero factors) 0 (foldl (cheaper factors) 6 (1 ∷ 2 ∷ 3 ∷ 4 ∷ 5 ∷ []))

unfoldable pub width_cost : (factors : List ℕ) → ℕ
width_cost factors = cost factors (width factors)
