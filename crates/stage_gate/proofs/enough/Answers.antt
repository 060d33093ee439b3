-- `stage_gate::enough` meets its contract. Assumes nothing.
use borrow.Author.Rules.{rules}
use Rattle.rules.specs.Stage.{stage_has_room}
use Rattle.stage_gate.proofs.enough.Goals as goal

pub returns-then-n-room-2 : goal.returns-then-n-room-2
unfolding stage_has_room
returns-then-n-room-2 c = search rules

pub returns-else-n-room-2 : goal.returns-else-n-room-2
unfolding stage_has_room
returns-else-n-room-2 c = search rules
