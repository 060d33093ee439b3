-- `low_bits` meets its contract: the mask is 2 ^ n - 1.
use lib.Bits.{and_mask}
use Rattle.bits.proofs.low_bits.Goals as goal

pub returns : goal.returns
returns c = rw c.ones.ensures (and_mask c.args.x c.args.n)
