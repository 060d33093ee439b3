-- Peak and average of the samples so far, as one value.
use mathlib.Core.List.{List, foldl}
use Rattle.std.specs.Prelude.{Float}
use Rattle.floats.specs.Single.{zero_f, max_abs, no_average, with_one, mean}
use Rattle.rules_files.specs.declared.wav.LevelNote.{LevelNote}
use Rattle.wav.specs.declared.samples.loudness.Loudness.{Loudness}

unfoldable pub no_loudness : Loudness
no_loudness = record { peak = zero_f; average = no_average }

unfoldable pub loudness_with : (l : Loudness) (x : Float) → Loudness
loudness_with l x = record { peak = max_abs l.peak x; average = with_one l.average x }

unfoldable pub loudness_note : (l : Loudness) → LevelNote
loudness_note l = record { peak = l.peak; mean = mean l.average }

unfoldable pub loudness_after : (xs : List Float) → Loudness
loudness_after xs = foldl loudness_with no_loudness xs
