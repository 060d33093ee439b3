-- `wav::chunks::default_format` meets its contract. Assumes nothing.
use mathlib.Core.Path.{refl}
use Rattle.rules_files.specs.Wav.{default_format}
use Rattle.wav.proofs.Turns.{default_fits}
use Rattle.wav.proofs.chunks.default_format.Goals as goal

pub returns : goal.returns
unfolding default_format
returns c = (refl, default_fits)
