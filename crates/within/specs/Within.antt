-- A scaled value that was held. Definitions only.
use Rattle.std.specs.Prelude.{Bool, ◌&&◌, List, ℕ, ◌<◌, T, Float, length, get_or}
use Rattle.std.specs.Float.{nan}
use Rattle.std.specs.Float.Ieee.{neg, le}
use Rattle.rules.specs.Scaling.{clip}

-- within ± the clip
pub record Within (x : Float) : Type 0 where
  pub least : T (le (neg clip) x)
  pub most : T (le x clip)

-- the same as a test
unfoldable pub within_b : (x : Float) → Bool
within_b x = le (neg clip) x && le x clip

-- every scaled value is
unfoldable pub AllWithin : (scaled : List Float) → Type 0
AllWithin scaled = (i : ℕ) → i < length scaled → Within (get_or scaled i nan)
