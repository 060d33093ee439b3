-- `factors::top_of_four` meets its contract. Assumes nothing.
use mathlib.Core.Path.{sym, subst}
use Prim.Native.Nat.{◌+◌}
use native.Mathlib.Omega.{arith}
use Rattle.factors.specs.Top.{Top}
use Rattle.factors.proofs.TopLaws.{top_join}
use Rattle.factors.proofs.top_of_four.Goals as goal

pub returns : goal.returns
returns c =
    let xs = c.args.spectra.now in
    let i = c.args.i in
    subst (Top xs i 4) (sym c.larger.ensures)
    (top_join xs i (i + 256) 2 2 _ _ (omega arith) c.top_of_two.ensures c.top_of_two-2.ensures)
