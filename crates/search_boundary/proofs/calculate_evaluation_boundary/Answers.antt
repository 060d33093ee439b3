-- `search_boundary::calculate_evaluation_boundary` meets its contract. Assumes nothing.
use borrow.Author.Rules.{rules}
use borrow.Author.Tests.{eq-eqb, ne_eqb}
use Rattle.rules.specs.Boundary.{boundary_of}
use Rattle.search_boundary.proofs.calculate_evaluation_boundary.Goals as goal

pub returns-then-level-eq0 : goal.returns-then-level-eq0
unfolding boundary_of
returns-then-level-eq0 c = (rw (eq-eqb _ _ c.if-level-eq0.true), search rules)

pub returns : goal.returns
unfolding boundary_of
returns c =
    let e = c.binary_search_boundary.ensures in
    (rw (ne_eqb _ _ c.if-level-eq0.false) e.0, e.1)
