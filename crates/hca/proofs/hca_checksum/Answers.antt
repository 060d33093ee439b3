-- `hca::hca_checksum` meets its contract. Assumes nothing.
use Rattle.hca.proofs.hca_checksum.Goals as goal

pub returns : goal.returns
returns c = c.crc16_checksum.ensures
