-- `file_header::reading::stream_back` meets its contract. Assumes nothing.
use Rattle.file_header.proofs.reading.stream_back.Goals as goal

pub returns : goal.returns
returns c = rw c.points_back.ensures
