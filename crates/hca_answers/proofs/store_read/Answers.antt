-- `hca_answers::store_read` meets its contract. Assumes nothing.
use native.Mathlib.Omega.{arith}
use Rattle.rules.specs.Refusals.{reader_outcome}
use Rattle.hca_answers.proofs.Places.{small_by, stored_by}
use Rattle.hca_answers.proofs.Refusing.{read_refuses, refusal-fits, refusal-stored}
use Rattle.hca_answers.proofs.store_read.Goals as goal

pub deliver-requires : goal.deliver-requires
unfolding reader_outcome
deliver-requires c = record { few = omega arith; small = small_by reader_outcome c.in-Ok.is c.requires }

pub returns-in-Ok : goal.returns-in-Ok
unfolding reader_outcome
returns-in-Ok c = stored_by reader_outcome c.in-Ok.is c.deliver.ensures

pub tell-requires : goal.tell-requires
tell-requires c = refusal-fits _ _ (read_refuses _) c.into.ensures (small_by reader_outcome c.in-Err.is c.requires)

pub returns-in-Err : goal.returns-in-Err
returns-in-Err c = stored_by reader_outcome c.in-Err.is (refusal-stored _ _ (read_refuses _) c.into.ensures c.tell.ensures)
