-- `hca_records::read::read_and_store` meets its contract. Assumes nothing.
use mathlib.Core.Path.{sym, ap, subst}
use Rattle.rules.specs.Reader.{ReaderLeft}
use Rattle.hca_answers.specs.Outcomes.{Small}
use Rattle.hca_records.proofs.ReadStores.{read_stores}
use Rattle.hca_records.proofs.ReadBounds.{read_small}
use Rattle.hca_records.proofs.read.read_and_store.Goals as goal

pub store_read-requires : goal.store_read-requires
store_read-requires c = subst Small (sym (ap (λ (x : ReaderLeft). x.outcome) c.read_frame-a.ensures))
    (read_small _ _)

pub returns : goal.returns
returns c = read_stores _ _ _ _ _ _ _ _ c.read_frame-a.ensures
    c.store_read.ensures
