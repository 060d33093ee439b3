-- `delta_factor` meets its contract. Both operations are far inside an i32. Assumes nothing.
use mathlib.Core.Path.{◌≡◌, sym, ap₂, ap, ◌∙◌, subst}
use native.Mathlib.Nat.{lt_of_le_of_lt}
use native.Mathlib.Omega.{arith}
use lib.IntN.{ℤ, pos, ◌+ℤ◌, ◌-ℤ◌, +ℤ_comm}
use mir.Syntax.{w32}
use mir.Val.{SFits, to_z, of_z}
use mir.Facts.{to_z_pos}
use mir.ValLaws.{to_z-of_z}
use Rattle.floats.proofs.SignedLaws.{mag_sub, mag_add}
use Rattle.reader_channels.proofs.values.delta_factor.Lts as lts
use Rattle.reader_channels.proofs.values.delta_factor.Tie as tie
use Rattle.reader_channels.proofs.values.delta_factor.Reads as reads
use Rattle.reader_channels.proofs.values.delta_factor.Goals as goal

module _ (c : lts.After-reach tie.the-claims reads.Pre reads.Post) where
  -- v - m, and then the sum: the casts change nothing
  less : to_z w32 c.args.v -ℤ to_z w32 c.reach.result ≡ pos c.args.v -ℤ pos c.reach.result
  less = ap₂ (λ (a b : ℤ). a -ℤ b) (to_z_pos w32 {n = c.args.v} (omega arith)) (to_z_pos w32 {n = c.reach.result} (omega arith))

  less_fits : SFits w32 (to_z w32 c.args.v -ℤ to_z w32 c.reach.result)
  less_fits = subst (λ (z : ℤ). SFits w32 z) (sym less)
      (record { sfits = lt_of_le_of_lt (mag_sub (pos c.args.v) c.reach.result) (omega arith) })

  sum : to_z w32 c.args.previous +ℤ to_z w32 (of_z w32 (to_z w32 c.args.v -ℤ to_z w32 c.reach.result))
      ≡ pos c.args.previous +ℤ (pos c.args.v -ℤ pos c.reach.result)
  sum = ap₂ (λ (a b : ℤ). a +ℤ b) (to_z_pos w32 {n = c.args.previous} (omega arith)) (to_z-of_z w32 _ less_fits ∙ less)

pub overflow_sub-result : goal.overflow_sub-result
overflow_sub-result c = less_fits c

pub overflow_add-result : goal.overflow_add-result
overflow_add-result c =
    let z : ℤ = pos c.args.v -ℤ pos c.reach.result in
    subst (λ (y : ℤ). SFits w32 y) (+ℤ_comm z (pos c.args.previous) ∙ sym (sum c))
    (record { sfits = lt_of_le_of_lt (mag_add z c.args.previous) (omega (arith, mag_sub (pos c.args.v) c.reach.result)) })

pub returns : goal.returns
returns c = to_z-of_z w32 _ (overflow_add-result c) ∙ sum c ∙ ap (λ m. pos c.args.previous +ℤ (pos c.args.v -ℤ pos m)) c.reach.ensures.0
