-- `codes::clear_from` meets its contract. The invariant: the bands from start to b are laid. Assumes nothing.
use mathlib.Core.Path.{◌≡◌}
use Prim.Native.Nat.{◌-◌}
use lib.IntN.{pos}
use lib.ListN.{length}
use Rattle.codes.specs.Bands.{bands_laid}
use Rattle.codes.proofs.clear_from.Given as goal

abbrev pub invariant-loop-b : goal.invariant-loop-b
invariant-loop-b l =
    (length l.codes ≡ length l.initial.codes) × (l.codes ≡ bands_laid (λ i s. pos 0) l.start (l.b - l.start) l.initial.codes)
