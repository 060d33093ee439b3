-- `writer::write_record` meets its contract. Assumes nothing.
use mathlib.Core.Path.{sym, ◌∙◌}
use Rattle.rules.proofs.Layouts.{legal_sizes, room_facts}
use Rattle.writer.proofs.Answers.{gate-layout, gate-short, room-granted}
use Rattle.writer.proofs.write_record.Goals as goal

pub returns-then-not-legal : goal.returns-then-not-legal
returns-then-not-legal c = gate-layout _ _ _ _ _ _ _ (sym c.legal.ensures ∙ c.if-not-legal.true)

pub has_room-requires : goal.has_room-requires
has_room-requires c = legal_sizes _ (sym c.legal.ensures ∙ c.if-not-legal.false)

pub returns-then-not-has_room : goal.returns-then-not-has_room
returns-then-not-has_room c =
    gate-short _ _ _ _ _ _ _ (sym c.legal.ensures ∙ c.if-not-legal.false) (sym c.has_room.ensures ∙ c.if-not-has_room.true)

pub write_parts-requires-clause-legal_layout : goal.write_parts-requires-clause-legal_layout
write_parts-requires-clause-legal_layout c = legal_sizes _ (sym c.legal.ensures ∙ c.if-not-legal.false)

pub write_parts-requires-clause-has_room : goal.write_parts-requires-clause-has_room
write_parts-requires-clause-has_room c = room_facts _ _ (sym c.has_room.ensures ∙ c.if-not-has_room.false)

pub returns : goal.returns
returns c = c.write_parts.ensures
    ∙ room-granted _ _ _ _ _ _ _ (sym c.legal.ensures ∙ c.if-not-legal.false) (sym c.has_room.ensures ∙ c.if-not-has_room.false)
