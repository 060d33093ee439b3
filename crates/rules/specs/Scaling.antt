-- Document 01, **Scaling**.
use Rattle.std.specs.Prelude.{List, cond, ℕ, ◌+◌, ◌*◌, eqb, ltb, Float, get_or}
use Rattle.std.specs.Float.{nan, binary32}
use Rattle.std.specs.Float.Ieee.{of_bits, neg, mul, div}
use Rattle.buffers.specs.Walk.{build, blocks}
use Rattle.floats.specs.Single.{held_f, zero_f, one_f}
use Rattle.rules.specs.Tables.{scaling_table}
use Rattle.rules.specs.Layout.{coded_count_at, part}
use Rattle.rules.specs.declared.Layout.{Layout}

-- the upper clip
abbrev pub clip : Float
clip = of_bits binary32 0x3F7FFFFE

-- 1 / entry: the entry's index, from 0, is the factor
unfoldable pub scale_of : (factor : ℕ) → Float
scale_of factor = div binary32 one_f (get_or scaling_table factor nan)

-- spectrum x (1 / entry), each operation rounded once, held within ± the clip; 0.0 where the factor is 0
unfoldable pub scaled_value : (factor : ℕ) (x : Float) → Float
scaled_value factor x = cond (eqb factor 0) zero_f (held_f (neg clip) clip (mul binary32 x (scale_of factor)))

-- a band's eight values, of a channel's spectra by subframe and band; past the coded count they are cleared
unfoldable pub scaled_band : (spectra : List Float) (factors : List ℕ) (coded band : ℕ) → List Float
scaled_band spectra factors coded band = build (λ s. cond (ltb band coded) (scaled_value (get_or factors band 0) (get_or spectra (s * 128 + band) nan)) zero_f) 8

-- a channel's 1,024 scaled values, by band and subframe
unfoldable pub channel_scaled : (spectra : List Float) (factors : List ℕ) (coded : ℕ) → List Float
channel_scaled spectra factors coded = blocks (scaled_band spectra factors coded) 128

-- the scaled values of every channel
unfoldable pub all_scaled : (l : Layout) (spectra : List Float) (factors : List ℕ) → List Float
all_scaled l spectra factors = blocks (λ c. channel_scaled (part 1024 spectra c) (part 128 factors c) (coded_count_at l c)) l.channels
