-- A channel's codes laid band by band, while they stand by subframe and band. Definitions only.
use Rattle.std.specs.Prelude.{◌≡◌, List, ℕ, zero, suc, ◌+◌, ◌*◌, ◌≤◌, ℤ, get_or, set}

-- a band's codes of the first subframes, laid over a channel's
unfoldable pub band_laid : (code : (subframe : ℕ) → ℤ) (band subframes : ℕ) (codes : List ℤ) → List ℤ
band_laid code band zero codes = codes
band_laid code band (suc s) codes = set (band_laid code band s codes) (s * 128 + band) (code s)

-- those of so many bands from one on, all eight subframes
unfoldable pub bands_laid : (code : (band subframe : ℕ) → ℤ) (start bands : ℕ) (codes : List ℤ) → List ℤ
bands_laid code start zero codes = codes
bands_laid code start (suc n) codes = band_laid (code (start + n)) (start + n) 8 (bands_laid code start n codes)

-- from a band on every resolution is 0
abbrev pub SilentFrom : (band : ℕ) (resolutions : List ℕ) → Type 0
SilentFrom band resolutions = (i : ℕ) → band ≤ i → get_or resolutions i 0 ≡ 0
