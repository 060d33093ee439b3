-- `hca_files::header::stream_of` meets its contract. Assumes nothing.
use Rattle.hca_files.specs.WriteHeader.{stream_of}
use Rattle.hca_files.proofs.header.stream_of.Goals as goal

pub returns : goal.returns
unfolding stream_of
returns c = rw c.points_of.ensures
