-- `hca_files::header_reading::read_header` meets its contract. Assumes nothing.
use Rattle.hca_files.proofs.HeaderReadStores.{answer-short, layout-short, header-done}
use Rattle.hca_files.proofs.header_reading.read_header.Goals as goal

pub returns-then-answer-lt8 : goal.returns-then-answer-lt8
returns-then-answer-lt8 c =
    let s = c.args in
    answer-short s.header.now s.layout.now s.answer.now c.if-answer-lt8.true

pub returns-then-layout-lt7 : goal.returns-then-layout-lt7
returns-then-layout-lt7 c =
    let s = c.args in
    layout-short s.header.now s.layout.now s.answer.now c.if-answer-lt8.false c.if-layout-lt7.true _ _ c.refuse.ensures

pub returns : goal.returns
returns c =
    let s = c.args in
    header-done s.header.now s.layout.now s.answer.now c.if-answer-lt8.false c.if-layout-lt7.false _ _ _ _
    c.read_file_header-a.ensures.0
    c.store_header.ensures.0 c.store_header.ensures.1
