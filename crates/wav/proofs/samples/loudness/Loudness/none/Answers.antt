-- `wav::samples::loudness::Loudness::none` meets its contract. Assumes nothing.
use mathlib.Core.Path.{ap}
use lib.Ieee.{of_bits}
use Rattle.floats.specs.Single.{zero_f}
use Rattle.floats.specs.declared.Average.{Average}
use Rattle.wav.specs.Loudness.{no_loudness}
use Rattle.wav.proofs.samples.loudness.Loudness.none.Goals as goal

pub returns : goal.returns
unfolding no_loudness of_bits
returns c = ap (λ (a : Average). record { peak = zero_f; average = a }) c.none-average.ensures
