-- What the table of bounds holds. Definitions only.
use Rattle.std.specs.Prelude.{◌≡◌, List, Float}
use Rattle.rules_stereo.specs.Mixed.{ratio_bounds}

-- a list that is **INTENSITY_RATIO_BOUNDS**
pub record IsBounds (t : List Float) : Type 0 where
  pub table : t ≡ ratio_bounds
