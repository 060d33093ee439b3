-- `codes::clear_band` meets its contract. The invariant: the zeros of the first s subframes are laid. Assumes nothing.
use mathlib.Core.Path.{◌≡◌}
use lib.IntN.{pos}
use lib.ListN.{length}
use Rattle.codes.specs.Bands.{band_laid}
use Rattle.codes.proofs.clear_band.Given as goal

abbrev pub invariant-loop-s : goal.invariant-loop-s
invariant-loop-s l = (length l.codes ≡ length l.initial.codes) × (l.codes ≡ band_laid (λ i. pos 0) l.band l.s l.initial.codes)
