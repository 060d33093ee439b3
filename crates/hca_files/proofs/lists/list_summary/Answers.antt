-- `hca_files::lists::list_summary` meets its contract. Assumes nothing.
use Rattle.hca_files.proofs.ListStores.{summary_short, summary_stores}
use Rattle.hca_files.proofs.lists.list_summary.Goals as goal

pub returns-then-answer-lt3 : goal.returns-then-answer-lt3
returns-then-answer-lt3 c = summary_short _ _ c.if-answer-lt3.true

pub returns : goal.returns
returns c = summary_stores _ _ c.if-answer-lt3.false _ _ _ c.list_summary-a.ensures
    c.store_summary.ensures
