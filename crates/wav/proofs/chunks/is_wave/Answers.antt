-- `wav::chunks::is_wave` meets its contract. Assumes nothing.
use borrow.Author.Rules.{rules}
use Rattle.wav.proofs.Turns.{wave_split}
use Rattle.wav.proofs.chunks.is_wave.Goals as goal

pub returns-then-get_low-eq-RIFF : goal.returns-then-get_low-eq-RIFF
returns-then-get_low-eq-RIFF c = rw (wave_split _) (search rules)

pub returns-else-get_low-eq-RIFF : goal.returns-else-get_low-eq-RIFF
returns-else-get_low-eq-RIFF c = rw (wave_split _) (search rules)
