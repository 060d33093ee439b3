-- `hfr::averages::with_band` meets its contract. Assumes nothing.
use native.Mathlib.Omega.{arith}
use borrow.Author.Tests.{lt-ltb, le-ltb}
use Rattle.hfr.specs.Sums.{with_sum}
use Rattle.hfr.proofs.averages.with_band.Goals as goal

pub returns-then-j-count : goal.returns-then-j-count
unfolding with_sum
returns-then-j-count c = (rw (lt-ltb _ _ c.if-j-count.true), omega arith)

pub returns-else-j-count : goal.returns-else-j-count
returns-else-j-count c = (rw (le-ltb _ _ c.if-j-count.false), omega arith)
