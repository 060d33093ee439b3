-- A sum of magnitudes worked out: 2 ^ 24 and twice 1 are 2 ^ 24 in this order, since 1 more is rounded off each time; backwards they are 2 ^ 24 + 2.
use mathlib.Core.Path.{◌≡◌, refl}
use mathlib.Core.Bool.{true, false}
use mathlib.Core.List.{[], ◌∷◌}
use lib.IntN.{pos}
use lib.Ieee.{fin, add}
use Rattle.floats.specs.Single.{one_f, zero_f, abs_f, add_abs, folded}

-- the second, fourth and sixth of six values
pub in_order : folded add_abs (one_f ∷ fin false 1 (pos 24) ∷ one_f ∷ one_f ∷ one_f ∷ fin true 1 (pos 0) ∷ []) 1 2 3 zero_f ≡ fin false 1 (pos 24)
unfolding folded abs_f add
in_order = refl
