-- A channel's bands scaled one after the other. Definitions only.
use Rattle.std.specs.Prelude.{◌≡◌, cond, List, ℕ, zero, suc, ◌+◌, ◌*◌, ◌<◌, ltb, Float, length, get_or, set}
use Rattle.std.specs.Float.{nan}
use Rattle.rules.specs.Tables.{scaling_table}
use Rattle.rules.specs.Scaling.{scaled_value}

-- the factor that a band is scaled by: 0, whose values are 0.0, past the coded count
unfoldable pub coded_factor : (factors : List ℕ) (coded band : ℕ) → ℕ
coded_factor factors coded band = cond (ltb band coded) (get_or factors band 0) 0

-- n scaled values of a band, the first of spectra's i-th, stored one after the other from a place on
unfoldable pub stored_band : (spectra : List Float) (factor i start n : ℕ) (scaled : List Float) → List Float
stored_band spectra factor i start zero scaled = scaled
stored_band spectra factor i start (suc n) scaled =
    stored_band spectra factor (i + 128) (start + 1) n (set scaled start (scaled_value factor (get_or spectra i nan)))

-- the table's entry of a band's factor
unfoldable pub entry_at : (factors : List ℕ) (band : ℕ) → Float
entry_at factors band = get_or scaling_table (get_or factors band 0) nan

-- the first n bands of a channel's values are scaled by its factors
unfoldable pub Scaled : (spectra : List Float) (factors : List ℕ) (n : ℕ) (scaled : List Float) → Type 0
Scaled spectra factors n scaled =
    (length scaled ≡ 1024)
    × ((b s : ℕ) → b < n → s < 8 → get_or scaled (b * 8 + s) nan ≡ scaled_value (get_or factors b 0) (get_or spectra (s * 128 + b) nan))
