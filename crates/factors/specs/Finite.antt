-- What refusal 4 has let pass: no spectrum value is NaN or infinite. Definitions only.
use Rattle.std.specs.Prelude.{List, ℕ, ◌<◌, T, Float, length, get_or}
use Rattle.std.specs.Float.{nan}
use Rattle.std.specs.Float.Ieee.Scale.{finite}

-- every value of the spectra is finite
unfoldable pub AllFinite : (spectra : List Float) → Type 0
AllFinite spectra = (i : ℕ) → i < length spectra → T (finite (get_or spectra i nan))
