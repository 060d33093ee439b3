-- `factors::guess` meets its contract. Assumes nothing.
use native.Mathlib.Omega.{arith}
use Rattle.factors.specs.Guess.{guess_of}
use Rattle.factors.proofs.guess.Goals as goal

pub returns : goal.returns
unfolding guess_of
returns c = (omega arith, omega arith)
