-- `hca_files::lists::storing::store_summary` meets its contract. Assumes nothing.
use Rattle.rules_files.specs.List.{summary_outcome}
use Rattle.hca_files.proofs.ListRefusing.{summary_refuses, refusal-fits, summary_refusal_stored, summary_stored_by}
use Rattle.hca_files.proofs.lists.storing.store_summary.Goals as goal

pub refuse_summary-requires : goal.refuse_summary-requires
refuse_summary-requires c = ((refusal-fits _ _ (summary_refuses c.in-Err.e) c.from.ensures).0, c.requires)

pub returns-in-Ok : goal.returns-in-Ok
unfolding summary_outcome
returns-in-Ok c = summary_stored_by c.in-Ok.is c.deliver_summary.ensures

pub returns-in-Err : goal.returns-in-Err
returns-in-Err c =
    summary_stored_by c.in-Err.is (summary_refusal_stored _ _ (summary_refuses c.in-Err.e) c.from.ensures c.refuse_summary.ensures)
