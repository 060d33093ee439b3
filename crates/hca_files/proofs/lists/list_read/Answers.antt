-- `hca_files::lists::list_read` meets its contract. Assumes nothing.
use mathlib.Core.Path.{sym, ap, subst}
use native.Mathlib.Omega.{arith}
use Rattle.rules_files.specs.List.{EntriesLeft}
use Rattle.hca_answers.specs.Outcomes.{Small}
use Rattle.hca_files.proofs.ListBounds.{read_small}
use Rattle.hca_files.proofs.ListStores.{read_short, read_stores}
use Rattle.hca_files.proofs.lists.list_read.Goals as goal

pub returns-then-answer-lt4 : goal.returns-then-answer-lt4
returns-then-answer-lt4 c = read_short _ _ _ c.if-answer-lt4.true

pub store_list-requires : goal.store_list-requires
store_list-requires c = (
  subst Small (sym (ap (λ (x : EntriesLeft). x.outcome) c.read_list-a.ensures))
      (read_small _ _ (λ k. omega (arith, c.type_inv.list k))),
  c.if-answer-lt4.false,
)

pub returns : goal.returns
returns c = read_stores _ _ _ c.if-answer-lt4.false _ _ _ _
    c.read_list-a.ensures c.store_list.ensures
