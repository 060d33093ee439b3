-- Document 01, **Estimate**.
use Rattle.std.specs.Prelude.{List, [], Bool, cond, ℕ, ◌+◌, ◌*◌, ltb, Float, get_or, take}
use Rattle.std.specs.Float.{nan}
use Rattle.std.specs.Float.Ieee.{le}
use Rattle.buffers.specs.Walk.{sum_to}
use Rattle.floats.specs.Single.{abs_f}
use Rattle.rules.specs.Tables.{spectrum_bits, dead_zone_table}
use Rattle.rules.specs.Layout.{coded_count_at, frame_size, side_count_at, kind_at, side_width, part}
use Rattle.rules.specs.Resolution.{resolution_at}
use Rattle.rules.specs.Width.{width_cost}
use Rattle.rules.specs.Code.{raw_code, limited_code, code_place, magnitude_bits}
use Rattle.rules.specs.declared.Mode.{Mode}
use Rattle.rules.specs.declared.Layout.{Layout}

-- one value: below resolution 8 the count from the table at 8 + code, the code limited as the mode says and not clamped before the table's 0..15; from 8
-- up MAX_BIT_TABLE - 1, plus 1 if the magnitude reaches the dead zone
unfoldable pub value_bits : (mode : Mode) (resolution : ℕ) (x : Float) → ℕ
value_bits mode resolution x =
    cond (ltb resolution 8)
    (get_or (get_or spectrum_bits resolution []) (code_place (limited_code mode resolution (raw_code resolution x))) 0)
    (magnitude_bits resolution + cond (le (get_or dead_zone_table resolution nan) (abs_f x)) 1 0)

-- the eight values of band b of a channel
unfoldable pub band_bits : (mode : Mode) (scaled : List Float) (band resolution : ℕ) → ℕ
band_bits mode scaled band resolution = sum_to (λ s. value_bits mode resolution (get_or scaled (band * 8 + s) nan)) 8

-- its coded bands
unfoldable pub channel_bits : (l : Layout) (scaled : List Float) (factors : List ℕ) (coded level boundary : ℕ) → ℕ
channel_bits l scaled factors coded level boundary = sum_to (λ band. band_bits l.mode scaled band (resolution_at l level boundary factors band)) coded

-- per channel its width cost, and 32 (secondary) or 6G
unfoldable pub header_bits : (l : Layout) (factors : List ℕ) (channel : ℕ) → ℕ
header_bits l factors channel = width_cost (take (coded_count_at l channel) factors) + side_count_at l channel * side_width (kind_at l channel)

-- the part that no level or boundary changes: 48 and the headers
unfoldable pub fixed_bits : (l : Layout) (factors : List ℕ) → ℕ
fixed_bits l factors = 48 + sum_to (λ c. header_bits l (part 128 factors c) c) l.channels

unfoldable pub spectral_bits : (l : Layout) (scaled : List Float) (factors : List ℕ) (level boundary : ℕ) → ℕ
spectral_bits l scaled factors level boundary =
    sum_to (λ c. channel_bits l (part 1024 scaled c) (part 128 factors c) (coded_count_at l c) level boundary) l.channels

unfoldable pub used_bits : (l : Layout) (scaled : List Float) (factors : List ℕ) (level boundary : ℕ) → ℕ
used_bits l scaled factors level boundary = fixed_bits l factors + spectral_bits l scaled factors level boundary

-- against 8F bits
unfoldable pub exceeds : (l : Layout) (scaled : List Float) (factors : List ℕ) (level boundary : ℕ) → Bool
exceeds l scaled factors level boundary = ltb (8 * frame_size l) (used_bits l scaled factors level boundary)
