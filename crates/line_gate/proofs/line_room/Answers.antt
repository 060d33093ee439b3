-- `line_gate::line_room` meets its contract. Assumes nothing.
use borrow.Author.Rules.{rules}
use Rattle.rules_line.specs.Line.{line_has_room}
use Rattle.line_gate.proofs.line_room.Goals as goal

pub returns-then-part_start-stored : goal.returns-then-part_start-stored
unfolding line_has_room
returns-then-part_start-stored c = search rules

pub returns-else-part_start-stored : goal.returns-else-part_start-stored
unfolding line_has_room
returns-else-part_start-stored c = search rules
