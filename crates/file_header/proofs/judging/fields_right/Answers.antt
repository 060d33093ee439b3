-- `file_header::judging::fields_right` meets its contract. Assumes nothing.
use borrow.Author.Rules.{rules}
use Rattle.file_header.proofs.Readings.{fields_split, derived_asks}
use Rattle.file_header.proofs.judging.fields_right.Goals as goal

pub derived_stand-requires-clause-legal_layout : goal.derived_stand-requires-clause-legal_layout
derived_stand-requires-clause-legal_layout c =
    (derived_asks _ _ c.requires _ c.plain_layout-layout.ensures (search rules)).0

pub derived_stand-requires-clause-channels_bound : goal.derived_stand-requires-clause-channels_bound
derived_stand-requires-clause-channels_bound c =
    ((derived_asks _ _ c.requires _ c.plain_layout-layout.ensures (search rules)).1, c.tail_of.ensures.1)

pub returns-then-derived_stand : goal.returns-then-derived_stand
returns-then-derived_stand c = rw (fields_split _ _ c.requires _ c.plain_layout-layout.ensures) (search rules)

pub returns-else-derived_stand : goal.returns-else-derived_stand
returns-else-derived_stand c = rw (fields_split _ _ c.requires _ c.plain_layout-layout.ensures) (search rules)
