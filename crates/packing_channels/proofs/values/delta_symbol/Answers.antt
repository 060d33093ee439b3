-- `packing_channels::values::delta_symbol` meets its contract: m + delta is not below zero where the delta is near. Assumes nothing.
use mathlib.Core.Path.{◌≡◌, sym, ap, ap₂, ◌∙◌, subst}
use Prim.Native.Nat.{ℕ, ◌+◌, ◌-◌}
use native.Mathlib.Omega.{arith}
use lib.Dec.{T}
use lib.IntN.{ℤ, pos, ◌+ℤ◌, nat_abs}
use lib.Signed.{non_neg}
use mir.Syntax.{w32}
use mir.Val.{SFits, Fits, to_z, of_z}
use mir.Facts.{to_z_pos}
use mir.ValLaws.{to_z-of_z}
use Rattle.rules.specs.Fields.{delta_symbol}
use Rattle.rules_formats.proofs.Deltas.{near-is, shift_up, symbol-is}
use borrow.Author.Rules.{rules}
use Rattle.packing_channels.proofs.values.delta_symbol.Lts as lts
use Rattle.packing_channels.proofs.values.delta_symbol.Tie as tie
use Rattle.packing_channels.proofs.values.delta_symbol.Reads as reads
use Rattle.packing_channels.proofs.values.delta_symbol.Goals as goal

module _ (c : lts.After-delta tie.the-claims reads.Pre reads.Post) where
  -- the signed sum, and the number that it is
  abbrev sum : ℤ
  sum = to_z w32 c.reach.result +ℤ to_z w32 (of_z w32 c.delta.result)

  abbrev symbol : ℕ
  symbol = c.reach.result + c.args.factor - c.args.previous

  sum_is : sum ≡ pos symbol
  sum_is =
      let a = c.args in
      let m = c.reach in
      let h = near-is a.d a.previous a.factor c.requires.2 in
      ap₂ (λ (x y : ℤ). x +ℤ y) (to_z_pos w32 {n = m.result} (omega arith)) (to_z-of_z w32 _ (record { sfits = c.delta.type_inv }) ∙ c.delta.ensures)
      ∙ shift_up m.result a.factor a.previous (omega (arith, h.1, m.ensures.0))

  fits : SFits w32 sum
  fits = subst (λ (z : ℤ). SFits w32 z) (sym sum_is) (record { sfits = omega arith })

  back : to_z w32 (of_z w32 sum) ≡ pos symbol
  back = to_z-of_z w32 sum fits ∙ sum_is

pub overflow_add-result : goal.overflow_add-result
overflow_add-result c = fits c

pub overflow_cast-result-2 : goal.overflow_cast-result-2
overflow_cast-result-2 c = subst (λ (z : ℤ). T (non_neg z) × Fits w32 (nat_abs z)) (sym (back c)) (tt, search rules)

pub returns : goal.returns
unfolding delta_symbol
returns c =
    let a = c.args in
    let h = near-is a.d a.previous a.factor c.requires.2 in
    let e : symbol c ≡ delta_symbol a.d a.previous a.factor =
    rw (c.requires.2, symbol-is a.d a.previous a.factor h.1, c.reach.ensures.0) in
    ap nat_abs (back c) ∙ e
