-- `hca_files::lists::list_write` meets its contract. Assumes nothing.
use mathlib.Core.Path.{refl, sym, ap, ◌∙◌}
use native.Mathlib.Omega.{arith}
use Rattle.std.specs.Prelude.{Ok}
use Rattle.rules_files.specs.List.{list_written_outcome, list_left}
use Rattle.hca_answers.specs.Outcomes.{result_of}
use Rattle.hca_files.proofs.ListRefusing.{result-is, written-refuses, refusal-fits}
use Rattle.hca_files.proofs.ListStores.{write_stores}
use Rattle.hca_files.proofs.lists.list_write.Goals as goal

pub overflow_cast-result : goal.overflow_cast-result
overflow_cast-result c = record { fits = omega (arith, (refusal-fits _ _ (written-refuses c.in-Err.e) c.from.ensures).0) }

pub returns-in-Ok : goal.returns-in-Ok
unfolding list_written_outcome result_of
returns-in-Ok c =
    write_stores _ _ _ (Ok tt) 0 _ (ap (λ a. list_left a c.write_list.new.list) (sym c.in-Ok.is) ∙ c.write_list.ensures) refl

pub returns-in-Err : goal.returns-in-Err
returns-in-Err c =
    write_stores _ _ _ _ _ _ (ap (λ a. list_left a c.write_list.new.list) (sym c.in-Err.is) ∙ c.write_list.ensures)
    (result-is _ _ c.from.ensures)
