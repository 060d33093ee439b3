-- `hca_answers::store_write` meets its contract. Assumes nothing.
use native.Mathlib.Omega.{arith}
use Rattle.rules.specs.Refusals.{writer_outcome}
use Rattle.hca_answers.proofs.Places.{small_by, stored_by}
use Rattle.hca_answers.proofs.Refusing.{write_refuses, refusal-fits, refusal-stored}
use Rattle.hca_answers.proofs.store_write.Goals as goal

pub deliver-requires : goal.deliver-requires
unfolding writer_outcome
deliver-requires c = record { few = omega arith; small = small_by writer_outcome c.in-Ok.is c.requires }

pub returns-in-Ok : goal.returns-in-Ok
unfolding writer_outcome
returns-in-Ok c = stored_by writer_outcome c.in-Ok.is c.deliver.ensures

pub tell-requires : goal.tell-requires
tell-requires c = refusal-fits _ _ (write_refuses _) c.into.ensures (small_by writer_outcome c.in-Err.is c.requires)

pub returns-in-Err : goal.returns-in-Err
returns-in-Err c = stored_by writer_outcome c.in-Err.is (refusal-stored _ _ (write_refuses _) c.into.ensures c.tell.ensures)
