-- `hca_files::header::write_header` meets its contract. Assumes nothing.
use mathlib.Core.Path.{◌≡◌, sym, ◌∙◌}
use mathlib.Core.Bool.{true}
use Rattle.hca_layout.specs.Layouts.{is_layout}
use Rattle.hca_layout.proofs.Naming.{named_five}
use Rattle.hca_files.proofs.HeaderStores.{header_unnamed, header_streamless, header_one_point, header-called}
use Rattle.hca_files.proofs.header.write_header.Lts as lts
use Rattle.hca_files.proofs.header.write_header.Tie as tie
use Rattle.hca_files.proofs.header.write_header.Reads as reads
use Rattle.hca_files.proofs.header.write_header.Goals as goal

pub returns-then-not-is_layout : goal.returns-then-not-is_layout
returns-then-not-is_layout c = header_unnamed _ _ _ _ _ (sym c.is_layout.ensures ∙ c.if-not-is_layout.true)

lawful : (c : lts.Else1 tie.the-claims reads.Pre reads.Post) → (let a = c.args in is_layout a.layout.now a.kinds.now ≡ true)
lawful c = sym c.is_layout.ensures ∙ c.if-not-is_layout.false

pub returns-then-stream-lt3 : goal.returns-then-stream-lt3
returns-then-stream-lt3 c = header_streamless _ _ _ _ _ (lawful c.before.before) c.if-stream-lt3.true

pub returns-then-points-eq1 : goal.returns-then-points-eq1
returns-then-points-eq1 c = header_one_point _ _ _ _ _ (lawful c.before.before.before) c.if-stream-lt3.false c.if-points-eq1.true

pub layout_of-l-requires : goal.layout_of-l-requires
layout_of-l-requires c = named_five _ _ (lawful c.before.before.before)

pub returns : goal.returns
returns c =
    header-called _ _ _ _ _ (lawful c.before.before.before.before.before.before.before.before.before) c.if-stream-lt3.false c.if-points-eq1.false _ _ _
    c.layout_of-l.ensures
    c.stream_of-s.ensures c.write_and_store.ensures
