-- `wav::samples::loudness::Loudness::note` meets its contract. Assumes nothing.
use mathlib.Core.Path.{ap}
use lib.Ieee.{Float}
use Rattle.wav.specs.Loudness.{loudness_note}
use Rattle.wav.proofs.samples.loudness.Loudness.note.Goals as goal

pub returns : goal.returns
unfolding loudness_note
returns c = ap (λ (m : Float). record { peak = c.args.self.peak; mean = m }) c.mean.ensures
