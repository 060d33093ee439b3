-- Document 01, **Scale factor**.
use Rattle.std.specs.Prelude.{List, [], ◌∷◌, cond, ℕ, ◌+◌, ltb, Float, take}
use Rattle.std.specs.Float.Ieee.{le}
use Rattle.buffers.specs.Walk.{build, blocks}
use Rattle.floats.specs.Single.{folded, max_abs, zero_f}
use Rattle.rules.specs.Tables.{scaling_table}
use Rattle.rules.specs.Layout.{coded_count_at, part}
use Rattle.rules.specs.declared.Layout.{Layout}

-- how many values of a list are at most v
unfoldable pub count_le : (v : Float) (xs : List Float) → ℕ
count_le v [] = 0
count_le v (x ∷ xs) = cond (le x v) 1 0 + count_le v xs

-- the factor of a value: the number of the table's first 63 entries that are at most it
unfoldable pub factor_of : (v : Float) → ℕ
factor_of v = count_le v (take 63 scaling_table)

-- a band's value: the largest magnitude over eight subframes. xs are a channel's 1,024 spectra by subframe and band
unfoldable pub peak_of : (spectra : List Float) (band : ℕ) → Float
peak_of spectra band = folded max_abs spectra band 128 8 zero_f

-- a channel's 128 factors; past the coded count they are cleared
unfoldable pub band_factor : (spectra : List Float) (coded band : ℕ) → ℕ
band_factor spectra coded band = cond (ltb band coded) (factor_of (peak_of spectra band)) 0

unfoldable pub channel_factors : (spectra : List Float) (coded : ℕ) → List ℕ
channel_factors spectra coded = build (band_factor spectra coded) 128

-- the factors of every channel
unfoldable pub all_factors : (l : Layout) (spectra : List Float) → List ℕ
all_factors l spectra = blocks (λ c. channel_factors (part 1024 spectra c) (coded_count_at l c)) l.channels
