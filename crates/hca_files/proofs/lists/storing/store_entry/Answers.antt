-- `hca_files::lists::storing::store_entry` meets its contract. Assumes nothing.
use Rattle.rules_files.specs.List.{entry_outcome}
use Rattle.hca_answers.proofs.Places.{stored_by}
use Rattle.hca_files.proofs.ListRefusing.{entry-refuses, refusal-fits, refusal-stored}
use Rattle.hca_files.proofs.lists.storing.store_entry.Goals as goal

pub refuse-requires : goal.refuse-requires
refuse-requires c = refusal-fits _ _ (entry-refuses c.in-Err.e) c.from-r.ensures

pub returns-in-Ok : goal.returns-in-Ok
unfolding entry_outcome
returns-in-Ok c = stored_by entry_outcome c.in-Ok.is c.deliver_entry.ensures

pub returns-in-Err : goal.returns-in-Err
returns-in-Err c =
    stored_by entry_outcome c.in-Err.is (refusal-stored _ _ (entry-refuses c.in-Err.e) c.from-r.ensures c.refuse.ensures)
