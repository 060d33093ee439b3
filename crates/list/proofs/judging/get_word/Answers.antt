-- `list::judging::get_word` meets its contract. Assumes nothing.
use native.Mathlib.Omega.{arith}
use native.Mathlib.Nat.{zero-lt-suc, pow-le-pow_right}
use Rattle.list.proofs.judging.get_word.Goals as goal

pub overflow_cast-result : goal.overflow_cast-result
overflow_cast-result c = omega (arith, c.get_high.ensures.1, pow-le-pow_right {n = 256} (zero-lt-suc 255) c.requires.1)
