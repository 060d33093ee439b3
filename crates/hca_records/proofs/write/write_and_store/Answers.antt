-- `hca_records::write::write_and_store` meets its contract. Assumes nothing.
use mathlib.Core.Path.{sym, ap, subst}
use Rattle.rules.specs.Writer.{WriterLeft}
use Rattle.hca_answers.specs.Outcomes.{Small}
use Rattle.hca_records.proofs.WriteStores.{write_stores}
use Rattle.hca_records.proofs.WriteBounds.{written_small}
use Rattle.hca_records.proofs.write.write_and_store.Goals as goal

pub store_write-requires : goal.store_write-requires
store_write-requires c = subst Small (sym (ap (λ (x : WriterLeft). x.outcome) c.write_record-a.ensures)) (written_small _ _)

pub returns : goal.returns
returns c = write_stores _ _ _ _ _ _ c.write_record-a.ensures c.store_write.ensures
