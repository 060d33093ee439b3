-- Document 01, **HFR**, and what **side** holds.
use Rattle.std.specs.Prelude.{List, cond, ℕ, zero, suc, ◌+◌, ◌-◌, ◌*◌, min, ltb, Float, get_or}
use Rattle.std.specs.Float.{binary32}
use Rattle.std.specs.Float.Ieee.{of_bits, lt, mul, div}
use Rattle.buffers.specs.Walk.{build, blocks}
use Rattle.floats.specs.Single.{min_f, zero_f, one_f, no_average, with_eight, mean}
use Rattle.floats.specs.declared.Average.{Average}
use Rattle.rules.specs.Layout.{start_band, hfr_bands, bands_per_group, group_count, secondary_at, part}
use Rattle.rules.specs.Factor.{factor_of}
use Rattle.rules.specs.declared.Layout.{Layout}

-- A sum and its count travel together as an `Average` of floats/specs/Single.antt: `no_average` has no values; `with_eight` adds a band's eight
-- magnitudes, subframes inside; `mean` is the sum over the count, and an average of no values is 0.

-- n values of b from b on, each taking its band's eight magnitudes into the sum and its count
unfoldable pub bands_taken : (f : ℕ → Average → Average) (b n : ℕ) (a : Average) → Average
bands_taken f b zero a = a
bands_taken f b (suc n) a = bands_taken f (suc b) n (f b a)

-- a group's average: the next g values of b, as far as they are below the limit
unfoldable pub group_average : (f : ℕ → Average → Average) (limit bands group : ℕ) → Average
group_average f limit bands group = bands_taken f (group * bands) (min (suc group * bands) limit - group * bands) no_average

-- the spectrum average runs from band N and stops at band 128, not at total
unfoldable pub spectrum_average : (l : Layout) (spectra : List Float) (group : ℕ) → Average
spectrum_average l spectra group = group_average (λ b. with_eight spectra (start_band l + b) 128) (128 - start_band l) (bands_per_group l) group

-- the source average takes scaled band N - 1 - b for b rising, while b < min(HFR bands, N)
unfoldable pub source_average : (l : Layout) (scaled : List Float) (group : ℕ) → Average
source_average l scaled group = group_average (λ b. with_eight scaled ((start_band l - 1 - b) * 8) 1) (min (hfr_bands l) (start_band l)) (bands_per_group l) group

abbrev pub sqrt2 : Float
sqrt2 = of_bits binary32 0x3FB504F3

-- the spectrum average, times min(1 / source, SQRT_2) if the source average is above 0
unfoldable pub group_value : (spectrum source : Float) → Float
group_value spectrum source = cond (lt zero_f source) (mul binary32 spectrum (min_f (div binary32 one_f source) sqrt2)) spectrum

-- the scale of group j: its factor
unfoldable pub hfr_scale : (l : Layout) (spectra scaled : List Float) (group : ℕ) → ℕ
hfr_scale l spectra scaled group = factor_of (group_value (mean (spectrum_average l spectra group)) (mean (source_average l scaled group)))

-- Side holds a secondary's intensities, else the G HFR scales; the rest is zero
unfoldable pub intensity_side : (intensities : List ℕ) → List ℕ
intensity_side intensities = build (λ j. get_or intensities j 0) 8

unfoldable pub scale_side : (l : Layout) (spectra scaled : List Float) → List ℕ
scale_side l spectra scaled = build (λ j. cond (ltb j (group_count l)) (hfr_scale l spectra scaled j) 0) 8

unfoldable pub channel_side : (l : Layout) (channel : ℕ) (spectra scaled : List Float) (intensities : List ℕ) → List ℕ
channel_side l channel spectra scaled intensities = cond (secondary_at l channel) (intensity_side intensities) (scale_side l spectra scaled)

-- of channel c, and of every channel, in the buffers of all
abbrev pub side_of : (l : Layout) (spectra scaled : List Float) (intensities : List ℕ) (channel : ℕ) → List ℕ
side_of l spectra scaled intensities channel = channel_side l channel (part 1024 spectra channel) (part 1024 scaled channel) (part 8 intensities channel)

unfoldable pub all_side : (l : Layout) (spectra scaled : List Float) (intensities : List ℕ) → List ℕ
all_side l spectra scaled intensities = blocks (side_of l spectra scaled intensities) l.channels
