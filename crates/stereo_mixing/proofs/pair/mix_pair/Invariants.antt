-- `stereo_mixing::pair::mix_pair` meets its contract. The invariant: the first s subframes are mixed. Assumes nothing.
use mathlib.Core.Path.{◌≡◌}
use Prim.Native.Nat.{◌-◌}
use lib.ListN.{length}
use Rattle.rules_stereo.specs.Mixed.{signal, subframes_mixed}
use Rattle.stereo_mixing.proofs.pair.mix_pair.Given as goal

abbrev pub invariant-loop-s : goal.invariant-loop-s
invariant-loop-s l = (l.count ≡ l.layout.total - l.layout.base) × (length l.pair ≡ length l.initial.pair)
    × (length l.intensities ≡ length l.initial.intensities) × (signal l.pair l.intensities ≡ subframes_mixed l.layout l.s (signal l.initial.pair l.initial.intensities))
