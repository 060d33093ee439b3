-- `packing_codes::number_of` meets its contract. Assumes nothing.
use mathlib.Core.Path.{sym, ap, subst}
use native.Mathlib.Omega.{arith}
use lib.Dec.{T}
use lib.IntN.{nat_abs}
use lib.Signed.{non_neg}
use mir.Syntax.{w32}
use mir.Val.{Fits}
use Rattle.packing_codes.proofs.Doubles.{ordinal-most, sum_fits, less_fits, less_back, turned-fits, turned-back}
use Rattle.packing_codes.proofs.number_of.Goals as goal

pub overflow_add-result : goal.overflow_add-result
overflow_add-result c = sum_fits c.args.code c.ranges.code c.requires

pub overflow_sub-result : goal.overflow_sub-result
overflow_sub-result c = less_fits c.args.code c.ranges.code c.requires c.if-code-gt0.true

pub overflow_cast-result : goal.overflow_cast-result
overflow_cast-result c =
    let m = ordinal-most c.args.code c.requires in
    subst (λ z. T (non_neg z) × Fits w32 (nat_abs z)) (sym (less_back c.args.code c.ranges.code c.requires c.if-code-gt0.true))
    (tt, record { fits = omega arith })

pub returns-then-code-gt0 : goal.returns-then-code-gt0
returns-then-code-gt0 c = let e = ap nat_abs (less_back c.args.code c.ranges.code c.requires c.if-code-gt0.true) in
    (e, rw e (ordinal-most c.args.code c.requires))

pub overflow_add-result-2 : goal.overflow_add-result-2
overflow_add-result-2 c = sum_fits c.args.code c.ranges.code c.requires

pub overflow_sub-result-2 : goal.overflow_sub-result-2
overflow_sub-result-2 c = turned-fits c.args.code c.ranges.code c.requires c.if-code-gt0.false

pub overflow_cast-result-2 : goal.overflow_cast-result-2
overflow_cast-result-2 c =
    let m = ordinal-most c.args.code c.requires in
    subst (λ z. T (non_neg z) × Fits w32 (nat_abs z)) (sym (turned-back c.args.code c.ranges.code c.requires c.if-code-gt0.false))
    (tt, record { fits = omega arith })

pub returns : goal.returns
returns c = let e = ap nat_abs (turned-back c.args.code c.ranges.code c.requires c.if-code-gt0.false) in
    (e, rw e (ordinal-most c.args.code c.requires))
