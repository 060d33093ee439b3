-- `hca_files::header_reading::loop_flag` meets its contract. Assumes nothing.
use Rattle.hca_files.specs.ReadHeader.{loop_flag}
use Rattle.hca_files.proofs.header_reading.loop_flag.Goals as goal

pub returns-in-None : goal.returns-in-None
unfolding loop_flag
returns-in-None c = rw c.in-None.is

pub returns-in-Some : goal.returns-in-Some
unfolding loop_flag
returns-in-Some c = rw c.in-Some.is
