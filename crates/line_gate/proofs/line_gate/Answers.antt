-- `line_gate::line_gate` meets its contract. Assumes nothing.
use mathlib.Core.Path.{sym, ◌∙◌}
use Rattle.rules.proofs.Layouts.{legal_sizes}
use Rattle.rules_line.specs.Line.{line_gate}
use Rattle.line_gate.specs.Gate.{line_gate_outcome}
use Rattle.rules_line.proofs.Gates.{batch_facts}
use Rattle.line_gate.proofs.line_gate.Goals as goal

pub returns-then-not-legal : goal.returns-then-not-legal
unfolding line_gate_outcome line_gate
returns-then-not-legal g c = rw (sym c.legal.ensures ∙ c.if-not-legal.true)

pub returns-then-not-batch_fits : goal.returns-then-not-batch_fits
unfolding line_gate_outcome line_gate
returns-then-not-batch_fits g c = rw (sym c.legal.ensures ∙ c.if-not-legal.false, sym c.batch_fits.ensures ∙ c.if-not-batch_fits.true)

pub line_room-requires-clause-legal_layout : goal.line_room-requires-clause-legal_layout
line_room-requires-clause-legal_layout g c = legal_sizes _ (sym c.legal.ensures ∙ c.if-not-legal.false)

pub line_room-requires-clause-count_bound : goal.line_room-requires-clause-count_bound
line_room-requires-clause-count_bound g c = (batch_facts _ _ (sym c.batch_fits.ensures ∙ c.if-not-batch_fits.false)).few

pub returns-then-not-line_room : goal.returns-then-not-line_room
unfolding line_gate_outcome line_gate
returns-then-not-line_room g c =
    rw (
      sym c.legal.ensures ∙ c.if-not-legal.false,
      sym c.batch_fits.ensures ∙ c.if-not-batch_fits.false,
      sym c.line_room.ensures ∙ c.if-not-line_room.true,
    )

pub returns : goal.returns
unfolding line_gate_outcome line_gate
returns g c =
    rw (
      sym c.legal.ensures ∙ c.if-not-legal.false,
      sym c.batch_fits.ensures ∙ c.if-not-batch_fits.false,
      sym c.line_room.ensures ∙ c.if-not-line_room.false,
    )
