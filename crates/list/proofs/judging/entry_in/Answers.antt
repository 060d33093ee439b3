-- `list::judging::entry_in` meets its contract. Assumes nothing.
use mathlib.Core.Path.{ap, ◌∙◌}
use mathlib.Core.List.{[]}
use native.Mathlib.Omega.{arith}
use Prim.Native.Nat.{◌-◌}
use lib.ListN.{length, get_or, drop, length-drop}
use lib.Seq.{take_all}
use Rattle.rules.specs.Layout.{part}
use Rattle.rules_files.specs.List.{entry_from}
use Rattle.list.proofs.Chunked.{chunk-at}
use Rattle.list.proofs.judging.entry_in.Goals as goal

pub returns : goal.returns
returns c =
    let list = c.args.list.now in
    let behind = take_all (length list - 9) (drop 9 list) (omega (arith, length-drop 9 list)) in
    let chunk = ap (λ xs. get_or xs c.args.i []) c.as_chunks.ensures.front ∙ chunk-at 8 _ c.args.i _ (omega arith) in
    c.entry_from.ensures ∙ ap entry_from (chunk ∙ ap (λ xs. part 8 xs c.args.i) behind)
