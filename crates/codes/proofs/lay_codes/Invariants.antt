-- `codes::lay_codes` meets its contract. The invariant: the first b bands are laid. Assumes nothing.
use mathlib.Core.Path.{◌≡◌}
use lib.ListN.{length}
use Rattle.rules.specs.Code.{code_at}
use Rattle.codes.specs.Bands.{bands_laid}
use Rattle.codes.proofs.lay_codes.Given as goal

abbrev pub invariant-loop-b : goal.invariant-loop-b
invariant-loop-b l =
    (length l.codes ≡ length l.initial.codes) × (l.codes ≡ bands_laid (λ i s. code_at l.mode l.resolutions l.scaled s i) 0 l.b l.initial.codes)
