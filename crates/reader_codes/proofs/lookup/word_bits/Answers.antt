-- `reader_codes::lookup::word_bits` meets its contract. Assumes nothing.
use native.Mathlib.Omega.{arith}
use Rattle.rules.specs.Code.{magnitude_bits}
use Rattle.reader_codes.proofs.Entries.{bits-some}
use Rattle.reader_codes.proofs.lookup.word_bits.Goals as goal

pub returns : goal.returns
unfolding magnitude_bits
returns c = omega (arith, bits-some c.args.r c.requires.0 c.requires.1)
