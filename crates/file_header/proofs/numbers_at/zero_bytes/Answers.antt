-- `file_header::numbers_at::zero_bytes` meets its contract. Assumes nothing.
use mathlib.Core.Path.{◌∙◌}
use mathlib.Core.List.{List}
use Prim.Native.Nat.{ℕ, ◌-◌}
use lib.Dec.{eqb}
use lib.ListN.{take, drop}
use Rattle.std.proofs.Common.{rules, tests}
use Rattle.std.proofs.lemmas.Iterator.{YieldsList-from_slice}
use Rattle.std.proofs.lemmas.Iterator.Search.{all_from_yields_List}
use Rattle.file_header.proofs.Readings.{all_zero}
use Rattle.file_header.proofs.numbers_at.zero_bytes.Goals as goal

pub returns : goal.returns
returns c =
    let bytes : List ℕ = take (c.args.to - c.args.from) (drop c.args.from c.args.header.now) in
    all_from_yields_List (λ x. eqb x 0) _ _ c.all.result c.all.ensures.ran (YieldsList-from_slice bytes cc) (λ x b q k. search (rules, tests))
    ∙ all_zero c.args.header.now c.args.from c.args.to c.requires.1
