-- Document 01, **Level**: the halving, over any estimate, and the removal of pairs.
use Rattle.std.specs.Prelude.{List, Bool, cond, ℕ, zero, suc, ◌+◌, ◌-◌, ◌/◌, ltb, set}
use Rattle.buffers.specs.Walk.{blocks}
use Rattle.rules.specs.Layout.{part, start_band}
use Rattle.rules.specs.declared.Layout.{Layout}

-- the halving of low to high by a test that says whether a probe exceeds; n is at least high - low
unfoldable pub halve : (over : ℕ → Bool) (fuel low high : ℕ) → ℕ
halve over zero low high = low
halve over (suc n) low high =
    let mid = (low + high) / 2 in
    cond (ltb low high) (cond (over mid) (halve over n (mid + 1) high) (halve over n low mid)) low

-- of 0 to 255; 255 says that there is none
unfoldable pub level_of : (over : ℕ → Bool) → ℕ
level_of over = halve over 255 0 255

-- two bands get factor 0 in every channel
unfoldable pub clear_two : (factors : List ℕ) (band : ℕ) → List ℕ
clear_two factors band = set (set factors band 0) (band + 1) 0

unfoldable pub clear_pair : (l : Layout) (factors : List ℕ) (band : ℕ) → List ℕ
clear_pair l factors band = blocks (λ c. clear_two (part 128 factors c) band) l.channels

-- what is found: the level (255: none), the pairs removed, and the factors that remain
pub record LevelFound : Type 0 where
  pub level : ℕ
  pub pairs : ℕ
  pub factors : List ℕ

-- While there is none, the highest band, top - 1, falls by 2; below 0 the search ends with none; else the two bands above it are cleared and
-- the search is repeated. n bounds the removals: 64 are more than there can be.
unfoldable pub remove : (l : Layout) (over : List ℕ → ℕ → Bool) (fuel top pairs : ℕ) (factors : List ℕ) → LevelFound
remove l over zero top pairs factors = record { level = level_of (over factors); pairs = pairs; factors = factors }
remove l over (suc n) top pairs factors =
    let found : LevelFound = record { level = level_of (over factors); pairs = pairs; factors = factors } in
    cond (ltb 254 (level_of (over factors)))
    (cond (ltb top 3) found (remove l over n (top - 2) (pairs + 1) (clear_pair l factors (top - 2))))
    found

unfoldable pub noise_level : (l : Layout) (over : List ℕ → ℕ → Bool) (factors : List ℕ) → LevelFound
noise_level l over factors = remove l over 64 (start_band l) 0 factors
