-- `packing_codes::field_of` meets its contract. Assumes nothing.
use mathlib.Core.Path.{sym, ◌∙◌, ap}
use Prim.Native.Nat.{◌-◌, ◌/◌}
use native.Mathlib.Omega.{arith}
use lib.Bits.{and_mask}
use Rattle.packing_codes.proofs.Columns.{field_first, field_later, field_none}
use Rattle.packing_codes.proofs.field_of.Goals as goal

pub overflow_sub-result : goal.overflow_sub-result
overflow_sub-result c =
    let a = c.args in
    let u = and_mask (a.rule / 16) 4 in
    let l = and_mask a.rule 4 in
    let h = c.requires.1 (omega arith) in
    omega arith

pub returns-then-number-u : goal.returns-then-number-u
returns-then-number-u c =
    let a = c.args in
    let u = and_mask (a.rule / 16) 4 in
    let l = and_mask a.rule 4 in
    let f = field_first a.rule a.number (omega arith) (omega arith) in
    (ap (λ n. n - 1) l ∙ sym f.0, sym f.1)

pub returns-then-number-rule : goal.returns-then-number-rule
returns-then-number-rule c =
    let a = c.args in
    let u = and_mask (a.rule / 16) 4 in
    let l = and_mask a.rule 4 in
    let f = field_later a.rule a.number (omega arith) (omega arith) in
    (l ∙ sym f.0, rw u (sym f.1))

pub returns : goal.returns
returns c = let f = field_none c.args.rule c.args.number (omega arith) in (sym f.0, sym f.1)
