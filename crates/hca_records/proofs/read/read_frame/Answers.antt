-- `hca_records::read::read_frame` meets its contract. Assumes nothing.
use mathlib.Core.Path.{sym, ◌∙◌}
use Rattle.hca_layout.proofs.Naming.{named_five}
use Rattle.hca_records.proofs.ReadStores.{read_unnamed, read_short, read_done}
use Rattle.hca_records.proofs.read.read_frame.Goals as goal

pub returns-then-not-is_layout : goal.returns-then-not-is_layout
returns-then-not-is_layout c = read_unnamed _ _ _ _ _ _ (sym c.is_layout.ensures
    ∙ c.if-not-is_layout.true) c.refuse.ensures

pub returns-then-answer-lt4 : goal.returns-then-answer-lt4
returns-then-answer-lt4 c = read_short _ _ _ _ (sym c.is_layout.ensures ∙ c.if-not-is_layout.false) c.if-answer-lt4.true

pub layout_of-l-requires : goal.layout_of-l-requires
layout_of-l-requires c = named_five _ _ (sym c.is_layout.ensures ∙ c.if-not-is_layout.false)

pub returns : goal.returns
returns c = read_done _ _ _ _ (sym c.is_layout.ensures ∙ c.if-not-is_layout.false) _ _
    c.layout_of-l.ensures
    c.if-answer-lt4.false
    c.read_and_store.ensures
