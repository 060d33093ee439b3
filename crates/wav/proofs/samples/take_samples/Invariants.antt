-- `wav::samples::take_samples` meets its contract. The invariant: the first k samples are stored, and their level is noted. Assumes nothing.
use mathlib.Core.Path.{◌≡◌}
use Rattle.buffers.specs.Walk.{build}
use Rattle.buffers.proofs.Build.{Filled}
use Rattle.rules_files.specs.Wav.{sample_at}
use Rattle.wav.specs.Loudness.{loudness_after}
use Rattle.wav.proofs.samples.take_samples.Given as goal

abbrev pub invariant-loop-k : goal.invariant-loop-k
invariant-loop-k l =
    Filled (sample_at l.wav l.depth l.body) l.initial.samples l.k l.samples × (l.loudness ≡ loudness_after (build (sample_at l.wav l.depth l.body) l.k))
