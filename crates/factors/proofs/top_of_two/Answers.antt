-- `factors::top_of_two` meets its contract. Assumes nothing.
use mathlib.Core.Path.{sym, ap₂, subst, ◌∙◌}
use Prim.Native.Nat.{◌+◌}
use native.Mathlib.Omega.{arith}
use Rattle.floats.specs.Single.{max_f}
use Rattle.factors.specs.Finite.{AllFinite}
use Rattle.factors.specs.Top.{Top}
use Rattle.factors.proofs.TopLaws.{finite_number, top_one, top_join}
use Rattle.factors.proofs.top_of_two.Goals as goal

pub size-requires : goal.size-requires
unfolding AllFinite
size-requires c = finite_number _ (c.requires.all_finite c.args.i (omega arith))

pub size-requires-2 : goal.size-requires-2
unfolding AllFinite
size-requires-2 c = finite_number _ (c.requires.all_finite (c.args.i + 128) (omega arith))

pub returns : goal.returns
unfolding AllFinite
returns c =
    let xs = c.args.spectra.now in
    let i = c.args.i in
    subst (Top xs i 2) (sym (c.larger.ensures ∙ ap₂ max_f c.size.ensures.0 c.size-2.ensures.0))
    (top_join xs i (i + 128) 1 1 _ _ (omega arith) (top_one xs i (c.requires.all_finite i (omega arith))) (top_one xs (i + 128) (c.requires.all_finite (i + 128) (omega arith))))
