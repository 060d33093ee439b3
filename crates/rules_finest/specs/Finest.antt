-- Request A10, **the finest level, shown**: what fits, and where the estimate is ordered. Definitions only.
use Rattle.std.specs.Prelude.{◌≡◌, false, List, ◌⊎◌, ℕ, ◌+◌, ◌*◌, ◌≤◌, ◌<◌, Float, get_or}
use Rattle.std.specs.Float.{nan}
use Rattle.std.specs.Float.Ieee.{eq}
use Rattle.rules.specs.Layout.{coded_count_at, frame_size, part}
use Rattle.rules.specs.Scaling.{clip}
use Rattle.rules.specs.Estimate.{used_bits}
use Rattle.rules.specs.declared.Mode.TheVariants.{Held}
use Rattle.rules.specs.declared.Layout.{Layout}

-- Fitting is document 01's **Estimate** against 8F bits, the 48 of sync, level and boundary and check included
unfoldable pub Fits : (l : Layout) (scaled : List Float) (factors : List ℕ) (level boundary : ℕ) → Type 0
Fits l scaled factors level boundary = used_bits l scaled factors level boundary ≤ 8 * frame_size l

-- no scaled value of a coded band equals the upper clip. A coded band is one below the coded count, removed or not
unfoldable pub Unclipped : (l : Layout) (scaled : List Float) → Type 0
Unclipped l scaled =
    (channel band subframe : ℕ) → channel < l.channels → band < coded_count_at l channel → subframe < 8
    → eq (get_or (part 1024 scaled channel) (band * 8 + subframe) nan) clip ≡ false

-- the request's premise: held mode, or the Rust's where nothing is at the upper clip
unfoldable pub Ordered : (l : Layout) (scaled : List Float) → Type 0
Ordered l scaled = (l.mode ≡ Held) ⊎ Unclipped l scaled
