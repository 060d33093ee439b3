-- `stereo_mixing::pair::mix_stereo_bands` meets its contract. The invariant: the bands below i are mixed. Assumes nothing.
use mathlib.Core.Path.{◌≡◌}
use Prim.Native.Nat.{◌-◌}
use lib.ListN.{length}
use Rattle.rules_stereo.specs.Mixed.{bands_mixed}
use Rattle.stereo_mixing.proofs.pair.mix_stereo_bands.Given as goal

abbrev pub invariant-loop-i : goal.invariant-loop-i
invariant-loop-i l = (length l.pair ≡ length l.initial.pair) × (l.pair ≡ bands_mixed l.ratio l.at (l.i - l.at) l.initial.pair)
