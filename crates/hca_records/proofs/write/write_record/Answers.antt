-- `hca_records::write::write_record` meets its contract. Assumes nothing.
use mathlib.Core.Path.{sym, ◌∙◌}
use Rattle.hca_layout.proofs.Naming.{named_five}
use Rattle.hca_records.proofs.WriteStores.{write_unnamed, write_short, write_headless, write_done}
use Rattle.hca_records.proofs.write.write_record.Goals as goal

pub returns-then-not-is_layout : goal.returns-then-not-is_layout
returns-then-not-is_layout c = write_unnamed _ _ _ _ _ _ _ _ _ _ (sym c.is_layout.ensures
    ∙ c.if-not-is_layout.true) c.refuse.ensures

pub returns-then-answer-lt4 : goal.returns-then-answer-lt4
returns-then-answer-lt4 c = write_short _ _ _ _ _ _ _ _ (sym c.is_layout.ensures ∙ c.if-not-is_layout.false) c.if-answer-lt4.true

pub returns-then-record-lt2 : goal.returns-then-record-lt2
returns-then-record-lt2 c = write_headless _ _ _ _ _ _ _ _ (sym c.is_layout.ensures ∙ c.if-not-is_layout.false) c.if-answer-lt4.false
    _ _ c.if-record-lt2.true c.refuse-then-record-lt2.ensures

pub layout_of-l-requires : goal.layout_of-l-requires
layout_of-l-requires c = named_five _ _ (sym c.is_layout.ensures ∙ c.if-not-is_layout.false)

pub returns : goal.returns
returns c =
    write_done _ _ _ _ _ _ _ _ (sym c.is_layout.ensures ∙ c.if-not-is_layout.false)
    c.if-answer-lt4.false
    c.if-record-lt2.false _ _ _ _
    c.layout_of-l.ensures
    c.wide-level.ensures
    c.wide-boundary.ensures
    c.write_and_store.ensures
