-- `hca_layout::has_kinds` meets its contract. Assumes nothing.
use mathlib.Core.Path.{◌∙◌}
use mathlib.Core.List.{List}
use Prim.Native.Nat.{ℕ}
use borrow.Author.Tests.{le-leb}
use lib.Dec.{leb}
use lib.ListN.{take}
use Rattle.std.proofs.Common.{rules, tests}
use Rattle.std.proofs.lemmas.Iterator.{YieldsList-from_slice}
use Rattle.std.proofs.lemmas.Iterator.Search.{all_from_yields_List}
use Rattle.hca_layout.specs.Layouts.{has_kinds}
use Rattle.hca_layout.proofs.Naming.{kinds-all}
use Rattle.hca_layout.proofs.has_kinds.Goals as goal

pub returns-then-n-kinds : goal.returns-then-n-kinds
unfolding has_kinds
returns-then-n-kinds c =
    let first : List ℕ = take c.args.n c.args.kinds.now in
    all_from_yields_List (λ k. leb k 2) _ _ c.all.result c.all.ensures.ran (YieldsList-from_slice first cc) (λ x b q k. search (rules, tests))
    ∙ kinds-all c.args.kinds.now c.args.n c.if-n-kinds.true
    ∙ rw (le-leb c.args.n _ c.if-n-kinds.true)

pub returns-else-n-kinds : goal.returns-else-n-kinds
unfolding has_kinds
returns-else-n-kinds c = search rules
