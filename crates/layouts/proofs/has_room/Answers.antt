-- `layouts::has_room` meets its contract. Assumes nothing.
use borrow.Author.Rules.{rules}
use Rattle.rules.specs.Layout.{has_room}
use Rattle.layouts.proofs.has_room.Goals as goal

pub returns-then-layout-room-3 : goal.returns-then-layout-room-3
unfolding has_room
returns-then-layout-room-3 c = search rules

pub returns-else-layout-room-3 : goal.returns-else-layout-room-3
unfolding has_room
returns-else-layout-room-3 c = search rules
