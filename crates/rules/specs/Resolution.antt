-- Document 01, **Resolution**.
use Rattle.std.specs.Prelude.{List, cond, ℕ, ◌-◌, ◌*◌, ◌/◌, min, max, eqb, ltb, ℤ, pos, ◌+ℤ◌, ◌-ℤ◌, nat_abs, length, get_or}
use Rattle.buffers.specs.Walk.{build, blocks}
use Rattle.rules.specs.Tables.{resolution_curve}
use Rattle.rules.specs.Signed.{held_z}
use Rattle.rules.specs.Layout.{coded_count_at, part}
use Rattle.rules.specs.declared.Layout.{Layout}

-- Noise is level - 1, not below 0, in bands below the boundary; else level
unfoldable pub noise_at : (level boundary band : ℕ) → ℕ
noise_at level boundary band = cond (ltb band boundary) (level - 1) level

-- the position, which can be far below zero before it is held to 0..58
unfoldable pub curve_position : (noise factor : ℕ) → ℤ
curve_position noise factor = pos noise -ℤ pos (5 * factor / 2) +ℤ pos 2

unfoldable pub held_position : (noise factor : ℕ) → ℕ
held_position noise factor = nat_abs (held_z (pos 0) (pos 58) (curve_position noise factor))

-- 0 for factor 0; else the curve, within the lowest and the highest resolution
unfoldable pub resolution_in : (lowest highest noise factor : ℕ) → ℕ
resolution_in lowest highest noise factor =
    cond (eqb factor 0) 0 (min (max (get_or resolution_curve (held_position noise factor) 0) lowest) highest)

-- within the layout's pair (request A8)
unfoldable pub resolution : (l : Layout) (noise factor : ℕ) → ℕ
resolution l noise factor = resolution_in l.minimum l.maximum noise factor

-- of a band of a channel with these factors
unfoldable pub resolution_at : (l : Layout) (level boundary : ℕ) (factors : List ℕ) (band : ℕ) → ℕ
resolution_at l level boundary factors band = resolution l (noise_at level boundary band) (get_or factors band 0)

-- of each of its coded bands
unfoldable pub resolutions_of : (l : Layout) (level boundary : ℕ) (factors : List ℕ) → List ℕ
resolutions_of l level boundary factors = build (resolution_at l level boundary factors) (length factors)

-- of its 128 bands, 0 past the coded count; and of every channel's
unfoldable pub band_resolution : (l : Layout) (level boundary : ℕ) (factors : List ℕ) (coded band : ℕ) → ℕ
band_resolution l level boundary factors coded band = cond (ltb band coded) (resolution_at l level boundary factors band) 0

unfoldable pub channel_resolutions : (l : Layout) (level boundary : ℕ) (factors : List ℕ) (coded : ℕ) → List ℕ
channel_resolutions l level boundary factors coded = build (band_resolution l level boundary factors coded) 128

unfoldable pub all_resolutions : (l : Layout) (level boundary : ℕ) (factors : List ℕ) → List ℕ
all_resolutions l level boundary factors = blocks (λ c. channel_resolutions l level boundary (part 128 factors c) (coded_count_at l c)) l.channels
