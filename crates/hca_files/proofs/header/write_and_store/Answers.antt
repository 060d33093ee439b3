-- `hca_files::header::write_and_store` meets its contract. Assumes nothing.
use mathlib.Core.Path.{sym, ap, ◌∙◌}
use native.Mathlib.Omega.{arith}
use Rattle.rules_files.specs.FileHeader.{header_left}
use Rattle.hca_files.proofs.HeaderStores.{refusal-small, header_written, header_refused}
use Rattle.hca_files.proofs.header.write_and_store.Goals as goal

pub overflow_cast-result : goal.overflow_cast-result
overflow_cast-result c = record { fits = omega (arith, refusal-small c.in-Err.e _ c.from.ensures) }

pub returns-in-Ok : goal.returns-in-Ok
returns-in-Ok c =
    header_written _ _ (ap (λ a. header_left a c.write_header.new.header) (sym c.in-Ok.is) ∙ c.write_header.ensures)

pub returns-in-Err : goal.returns-in-Err
returns-in-Err c =
    header_refused c.in-Err.e _ c.from.ensures _ _
    (ap (λ a. header_left a c.write_header.new.header) (sym c.in-Err.is) ∙ c.write_header.ensures)
