-- `stereo_gate::is_outside` meets its contract: 65,536 is 1 x 2^16. Assumes nothing.
use native.Mathlib.Omega.{arith}
use lib.IntN.{pos}
use lib.Ieee.{of_bits, neg}
use Rattle.stereo_gate.proofs.Loud.{outside_is}
use Rattle.stereo_gate.proofs.is_outside.Goals as goal

pub returns : goal.returns
unfolding of_bits neg
returns c = outside_is 1 (pos 16) (omega arith) c.args.x
