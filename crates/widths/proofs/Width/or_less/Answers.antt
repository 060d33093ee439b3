-- `widths::Width::or_less` meets its contract. Assumes nothing.
use Prim.Native.Nat.{◌≤◌, ◌<◌}
use native.Mathlib.Omega.{arith}
use borrow.Author.Tests.{lt-ltb, le-ltb}
use Rattle.widths.specs.Walks.{or_less}
use Rattle.widths.proofs.Width.or_less.Goals as goal

pub returns-then-cost-self : goal.returns-then-cost-self
unfolding or_less
returns-then-cost-self c =
    let a = c.args in
    let less : a.length < a.self.cost = omega arith in
    (rw (c.from-cost.ensures, lt-ltb _ _ less), omega arith, omega arith)

pub returns-else-cost-self : goal.returns-else-cost-self
unfolding or_less
returns-else-cost-self c =
    let a = c.args in
    let more : a.self.cost ≤ a.length = omega arith in
    (rw (le-ltb _ _ more), omega arith, omega arith)
