-- `quantizer::tables::magnitude_bits` meets its contract. Assumes nothing.
use Rattle.rules.specs.Tables.{max_bit_table}
use Rattle.rules.specs.Code.{magnitude_bits}
use Rattle.quantizer.proofs.Entries.{one-less, bits-le}
use Rattle.quantizer.proofs.tables.magnitude_bits.Goals as goal

pub returns : goal.returns
unfolding magnitude_bits max_bit_table
returns c = let is = one-less max_bit_table c.args.r in (is, rw is (bits-le c.args.r c.requires))
