-- `search_boundary::higher_or_lower` meets its contract. Assumes nothing.
use borrow.Author.Rules.{rules}
use borrow.Author.Tests.{eq-eqb}
use Rattle.rules.specs.Boundary.{last_of}
use Rattle.search_boundary.proofs.higher_or_lower.Goals as goal

pub returns-then-low-high : goal.returns-then-low-high
unfolding last_of
returns-then-low-high c = (rw (eq-eqb _ _ c.if-low-high.true), search rules)

pub move_boundary-probed-requires : goal.move_boundary-probed-requires
move_boundary-probed-requires c =
    let p = c.requires in
    let h = p.level_nonzero in
    record { probe_fits = p.probe_fits; level_nonzero = (h.0, h.1, h.2, search rules); used_value = p.used_value }
