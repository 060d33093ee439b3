-- `list::writing::entry_at` meets its contract. Assumes nothing.
use mathlib.Core.Path.{sym, ap, ◌∙◌}
use mathlib.Core.List.{[]}
use native.Mathlib.Omega.{arith}
use lib.ListN.{get_or}
use Rattle.rules_files.specs.List.{entry_at}
use Rattle.rules_files.proofs.Entries.{entry-part}
use Rattle.list.proofs.Chunked.{chunk-at}
use Rattle.list.proofs.writing.entry_at.Goals as goal

pub returns : goal.returns
unfolding entry_at
returns c =
    let chunk = ap (λ xs. get_or xs c.args.i []) c.as_chunks.ensures.front ∙ chunk-at 4 _ c.args.i c.args.entries.now (omega arith) in
    sym (entry-part c.args.entries.now c.args.i ∙ ap (λ xs. entry_at xs 0) (sym chunk))
