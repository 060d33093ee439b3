-- `stereo_gate::has_outside` meets its contract. The invariant: what was found, or is found from the index on, is what the whole search finds.
-- Assumes nothing.
use mathlib.Core.Path.{◌≡◌}
use mathlib.Core.Bool.{◌||◌}
use Prim.Native.Nat.{◌-◌}
use lib.Dec.{ltb}
use lib.ListN.{length}
use Rattle.buffers.specs.Walk.{first, first_from}
use Rattle.rules.specs.Stage.{bad_spectrum}
use Rattle.rules_stereo.specs.Stereo.{too_loud}
use Rattle.stereo_gate.proofs.has_outside.Given as goal

abbrev pub invariant-loop-x : goal.invariant-loop-x
invariant-loop-x l =
    let n = length l.spectra in
    ltb (first (bad_spectrum l.spectra) n) n || ltb (first (too_loud l.spectra) n) n
    ≡ l.found || (ltb (first_from (bad_spectrum l.spectra) l.x-index (n - l.x-index)) n || ltb (first_from (too_loud l.spectra) l.x-index (n - l.x-index)) n)
