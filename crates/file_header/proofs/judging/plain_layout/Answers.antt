-- `file_header::judging::plain_layout` meets its contract. Assumes nothing.
use Rattle.file_header.proofs.judging.plain_layout.Goals as goal

pub returns : goal.returns
returns c = rw c.layout_with.ensures
