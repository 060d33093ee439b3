-- `hca_files::header_reading::loop_or` meets its contract. Assumes nothing.
use Rattle.hca_files.proofs.HeaderReadStores.{loop_given}
use Rattle.hca_files.proofs.header_reading.loop_or.Goals as goal

pub returns : goal.returns
returns c = rw c.unwrap_or.ensures (loop_given c.args.points c.requires)
