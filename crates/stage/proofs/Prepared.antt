-- What is made from the buffers that `prepare` leaves is what the rules make. Assumes nothing.
use mathlib.Core.Path.{◌≡◌}
use mathlib.Core.List.{List}
use Prim.Native.Nat.{ℕ}
use lib.Ieee.{Float}
use Rattle.rules.specs.Factor.{all_factors}
use Rattle.rules.specs.Scaling.{all_scaled}
use Rattle.rules.specs.Hfr.{all_side}
use Rattle.rules.specs.Stage.{level_found, analysis, analysis_from}
use Rattle.rules.specs.declared.Layout.{Layout}

pub made_of_prepared : (l : Layout) (xs : List Float) (is : List ℕ) (sc : List Float) (fa si : List ℕ) → fa ≡ all_factors l xs → sc
    ≡ all_scaled l xs (all_factors l xs)
    → si ≡ all_side l xs (all_scaled l xs (all_factors l xs)) is → analysis_from l sc si (level_found l sc fa) ≡ analysis l xs is
unfolding analysis
made_of_prepared l xs is sc fa si p q r = rw (r, q, p)
