-- `stereo_mixing::encode_intensity_stereo` meets its contract. The invariant: the first c channels are mixed. Assumes nothing.
use mathlib.Core.Path.{◌≡◌}
use lib.ListN.{length}
use Rattle.rules_stereo.specs.Mixed.{signal, channels_mixed}
use Rattle.stereo_mixing.proofs.encode_intensity_stereo.Given as goal

abbrev pub invariant-loop-c : goal.invariant-loop-c
invariant-loop-c l = (length l.spectra ≡ length l.initial.spectra)
    × (length l.intensities ≡ length l.initial.intensities) × (signal l.spectra l.intensities ≡ channels_mixed l.layout l.c (signal l.initial.spectra l.initial.intensities))
