-- `list::writing::entry_bytes` meets its contract. Assumes nothing.
use mathlib.Core.Path.{refl}
use Rattle.list.proofs.Laying.{entry_laid}
use Rattle.list.proofs.writing.entry_bytes.Goals as goal

pub returns : goal.returns
returns c =
    entry_laid _ _ _ _ _ _ refl
    c.put_word.ensures
    c.put_word-2.ensures
    c.put_word-3.ensures c.put_word-4.ensures
