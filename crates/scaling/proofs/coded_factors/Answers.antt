-- `scaling::coded_factors` meets its contract. Assumes nothing.
use mathlib.Core.Path.{ap, ◌∙◌}
use mathlib.Core.List.{List, ◌++◌}
use Prim.Native.Nat.{ℕ}
use lib.ListN.{drop, replicate, take}
use lib.Seq.{get_or-take, length-take-le}
use Rattle.buffers.proofs.Build.{build-of}
use Rattle.scaling.proofs.Scaled.{coded_are}
use Rattle.scaling.proofs.coded_factors.Goals as goal

pub returns : goal.returns
returns c =
    let fs = c.args.factors.now in
    let n = c.args.coded in
    coded_are fs _ n c.requires.1
    (ap (λ (front : List ℕ). front ++ drop n (replicate 128 0)) (c.copy_from_slice.ensures.after ∙ build-of _ n 0 (take n fs) (length-take-le n fs c.requires.0) (λ i l. get_or-take n fs i 0 l)))
