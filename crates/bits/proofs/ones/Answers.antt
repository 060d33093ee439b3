-- `ones` meets its contract.
use lib.Pow.{pow_pos}
use Rattle.bits.proofs.Shifts.{one_shl}
use Rattle.bits.proofs.ones.Goals as goal

pub overflow_sub-result : goal.overflow_sub-result
overflow_sub-result c = rw (one_shl c.args.n c.requires) (pow_pos c.args.n)

pub returns : goal.returns
returns c = rw (one_shl c.args.n c.requires)
