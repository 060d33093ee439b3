-- `list::reading::store_entry` meets its contract. Assumes nothing.
use Rattle.list.proofs.Laying.{four-stored}
use Rattle.list.proofs.reading.store_entry.Goals as goal

pub returns : goal.returns
returns c = four-stored c.args.entry c.args.numbers.now c.requires
