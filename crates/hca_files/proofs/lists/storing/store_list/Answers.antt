-- `hca_files::lists::storing::store_list` meets its contract. Assumes nothing.
use Rattle.rules_files.specs.List.{list_read_outcome}
use Rattle.hca_answers.specs.Outcomes.{numbers_of, Small}
use Rattle.hca_answers.proofs.Places.{small_by, stored_by}
use Rattle.hca_files.proofs.ListRefusing.{list-refuses, refusal-fits, refusal-stored}
use Rattle.hca_files.proofs.lists.storing.store_list.Goals as goal

pub deliver_frames-requires : goal.deliver_frames-requires
unfolding list_read_outcome Small numbers_of
deliver_frames-requires c = (small_by list_read_outcome c.in-Ok.is c.requires.0 0, c.requires.1)

pub refuse-requires : goal.refuse-requires
refuse-requires c = refusal-fits _ _ (list-refuses c.in-Err.e) c.from-r.ensures

pub returns-in-Ok : goal.returns-in-Ok
unfolding list_read_outcome
returns-in-Ok c = stored_by list_read_outcome c.in-Ok.is c.deliver_frames.ensures

pub returns-in-Err : goal.returns-in-Err
returns-in-Err c =
    stored_by list_read_outcome c.in-Err.is (refusal-stored _ _ (list-refuses c.in-Err.e) c.from-r.ensures c.refuse.ensures)
