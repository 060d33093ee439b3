-- Document 01, **Layout and lent buffers**: what a call leaves in a lent buffer over its stated length.
use Rattle.std.specs.Prelude.{List, ◌++◌, ℕ, ℤ, pos, Float, length, drop, replicate}
use Rattle.floats.specs.Single.{zero_f}
use Rattle.rules.specs.Layout.{frame_size, spectrum_length, factor_length, side_length}
use Rattle.rules.specs.declared.Layout.{Layout}

-- new values over a buffer's stated length; a longer buffer's rest stays untouched
abbrev pub overwrite : {A : Type 0} (new old : List A) → List A
overwrite new old = new ++ drop (length new) old

-- zeros over the stated length of each buffer
abbrev pub no_floats : (l : Layout) → List Float
no_floats l = replicate (spectrum_length l) zero_f

abbrev pub no_codes : (l : Layout) → List ℤ
no_codes l = replicate (spectrum_length l) (pos 0)

abbrev pub no_factors : (l : Layout) → List ℕ
no_factors l = replicate (factor_length l) 0

abbrev pub no_side : (l : Layout) → List ℕ
no_side l = replicate (side_length l) 0

abbrev pub no_frame : (l : Layout) → List ℕ
no_frame l = replicate (frame_size l) 0
