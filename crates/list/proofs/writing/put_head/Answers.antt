-- `list::writing::put_head` meets its contract. Assumes nothing.
use Rattle.list.proofs.Laying.{head_laid}
use Rattle.list.proofs.writing.put_head.Goals as goal

pub returns : goal.returns
returns c = head_laid _ _ _ _ _ c.put_word.ensures
    c.put_word-2.ensures c.put_word-3.ensures
