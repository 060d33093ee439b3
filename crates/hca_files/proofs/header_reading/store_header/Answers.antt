-- `hca_files::header_reading::store_header` meets its contract. Assumes nothing.
use Rattle.rules_files.specs.HeaderReading.{header_read_outcome, header_layout}
use Rattle.hca_files.proofs.HeaderReadStores.{refusal-fits, refusal-stored, read_fits, read_stored}
use Rattle.hca_files.proofs.header_reading.store_header.Goals as goal

pub store_layout-requires-clause-fields_fit : goal.store_layout-requires-clause-fields_fit
store_layout-requires-clause-fields_fit c = read_fits _ _ c.in-Ok.is c.requires.read_fits

pub deliver_header-requires-clause-fields_fit : goal.deliver_header-requires-clause-fields_fit
deliver_header-requires-clause-fields_fit c = read_fits _ _ c.in-Ok.is c.requires.read_fits

pub refuse-requires : goal.refuse-requires
refuse-requires c = refusal-fits c.in-Err.e _ c.from-r.ensures

pub returns-in-Ok : goal.returns-in-Ok
unfolding header_read_outcome header_layout
returns-in-Ok c = read_stored _ _ c.in-Ok.is _ _ _ _ _ (c.store_layout.ensures, c.deliver_header.ensures)

pub returns-in-Err : goal.returns-in-Err
returns-in-Err c =
    read_stored _ _ c.in-Err.is _ _ _ _ _ (refusal-stored c.in-Err.e _ c.from-r.ensures _ _ _ _ c.refuse.ensures)
