-- What the halving of the levels ends at.
use Rattle.std.specs.Prelude.{List, ◌≡◌, ◌*◌, ◌≤◌, ℕ, Float}
use Rattle.rules.specs.Layout.{frame_size}
use Rattle.rules.specs.Estimate.{exceeds, used_bits}
use Rattle.rules.specs.Level.{level_of}
use Rattle.rules.specs.declared.Layout.{Layout}
use Rattle.search_level.specs.declared.Found.{Found}

-- the level that is found at boundary 0, and the estimate's bits there, which fit
abbrev pub FitsAt : (l : Layout) (scaled : List Float) (factors : List ℕ) (f : Found) → Type 0
FitsAt l scaled factors f =
    (f.level ≡ level_of (λ level. exceeds l scaled factors level 0)) × (f.level ≤ 254) × (f.used ≡ used_bits l scaled factors f.level 0) × (f.used ≤ 8 * frame_size l)
