-- `writer::write_parts` meets its contract. Assumes nothing.
use Rattle.writer.proofs.Answers.{parts_left}
use Rattle.writer.proofs.write_parts.Goals as goal

pub returns : goal.returns
returns c = parts_left _ c.requires.legal_layout _ _ _ _ _ _ c.requires.has_room.frame _ _ c.write_exact.ensures
