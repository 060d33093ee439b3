-- `codes::band::band_codes` meets its contract. The invariant: the codes of the first s subframes are laid. Assumes nothing.
use mathlib.Core.Path.{◌≡◌}
use Prim.Native.Nat.{◌+◌, ◌*◌}
use lib.Ieee.{nan}
use lib.ListN.{length, get_or}
use Rattle.codes.specs.Bands.{band_laid}
use Rattle.codes.specs.Columns.{code_by}
use Rattle.codes.proofs.band.band_codes.Given as goal

abbrev pub invariant-loop-s : goal.invariant-loop-s
invariant-loop-s l =
    (length l.codes ≡ length l.initial.codes) × (l.codes ≡ band_laid (λ i. code_by l.column (get_or l.scaled (l.band * 8 + i) nan)) l.band l.s l.initial.codes)
