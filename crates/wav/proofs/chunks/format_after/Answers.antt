-- `wav::chunks::format_after` meets its contract. Assumes nothing.
use borrow.Author.Rules.{rules}
use Rattle.rules_files.specs.Wav.{format_in}
use Rattle.wav.proofs.Turns.{format_split}
use Rattle.wav.proofs.chunks.format_after.Goals as goal

pub returns-then-name-ne-FMT : goal.returns-then-name-ne-FMT
returns-then-name-ne-FMT c = (rw (format_split _ _ _ _ _) (search rules), c.requires)

pub returns : goal.returns
unfolding format_in
returns c = (
  rw (format_split _ _ _ _ _) (search rules),
  record { channels = c.get_low.ensures.1; rate = c.get_low-2.ensures.1; depth = c.get_low-3.ensures.1 },
)
