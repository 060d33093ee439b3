-- `hca_files::lists::list_lookup` meets its contract. Assumes nothing.
use Rattle.hca_files.proofs.ListStores.{lookup_short, lookup_stores}
use Rattle.hca_files.proofs.lists.list_lookup.Goals as goal

pub returns-then-answer-lt4 : goal.returns-then-answer-lt4
returns-then-answer-lt4 c = lookup_short _ _ _ c.if-answer-lt4.true

pub returns : goal.returns
returns c = lookup_stores _ _ _ c.if-answer-lt4.false _ _ _ c.list_entry-a.ensures
    c.store_entry.ensures
