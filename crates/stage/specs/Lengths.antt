-- The lengths of document 01 for what is lent to the stage.
use Rattle.std.specs.Prelude.{◌≡◌, ℕ}
use Rattle.rules.specs.Layout.{frame_size, spectrum_length, factor_length, side_length}
use Rattle.rules.specs.declared.Layout.{Layout}

pub record StageLengths (l : Layout) (xs is sc co fa si fr : ℕ) : Type 0 where
  pub spectra : xs ≡ spectrum_length l
  pub intensities : is ≡ side_length l
  pub scaled : sc ≡ spectrum_length l
  pub codes : co ≡ spectrum_length l
  pub factors : fa ≡ factor_length l
  pub side : si ≡ side_length l
  pub frame : fr ≡ frame_size l
