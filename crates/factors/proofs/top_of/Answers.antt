-- `factors::top_of` meets its contract. Assumes nothing.
use mathlib.Core.Path.{sym, subst}
use Prim.Native.Nat.{◌+◌}
use native.Mathlib.Omega.{arith}
use lib.Dec.{T}
use Rattle.factors.specs.Top.{Top}
use Rattle.factors.proofs.TopLaws.{top_join, top-peak}
use Rattle.factors.proofs.top_of.Goals as goal

pub returns : goal.returns
returns c =
    let xs = c.args.spectra.now in
    let b = c.args.b in
    top-peak xs b c.larger.result (subst T (sym c.larger.type_inv) tt)
    (subst (Top xs b 8) (sym c.larger.ensures)
    (top_join xs b (b + 512) 4 4 _ _ (omega arith) c.top_of_four.ensures c.top_of_four-2.ensures))
