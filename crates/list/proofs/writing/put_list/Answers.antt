-- `list::writing::put_list` meets its contract. Assumes nothing.
use Rattle.list.proofs.Laying.{list_laid}
use Rattle.list.proofs.writing.put_list.Goals as goal

pub returns : goal.returns
returns c = list_laid _ _ c.args.list.now _ _
    c.put_head.ensures c.put_entries.ensures
