-- `resolutions::held_position` meets its contract. The position lies far inside an i64. Assumes nothing.
use mathlib.Core.Path.{◌≡◌, refl, sym, ap, ap₂, ◌∙◌, subst}
use mathlib.Core.Bool.{Bool, true, false, cond}
use Prim.Native.Nat.{ℕ, ◌*◌, ◌/◌, ◌≤◌, ◌<◌, zero-le}
use native.Mathlib.Nat.{lt_of_le_of_lt}
use native.Mathlib.Omega.{arith}
use borrow.Author.Tests.{le-ltb}
use lib.Dec.{ltb}
use lib.IntN.{ℤ, pos, negsuc, nat_abs, ◌+ℤ◌, ◌-ℤ◌}
use mir.Syntax.{w64}
use mir.Val.{SFits, to_z, of_z}
use mir.Facts.{to_z_pos}
use mir.ValLaws.{to_z-of_z}
use Rattle.std.specs.Int.{int_min, int_max}
use Rattle.rules.specs.Signed.{held_z}
use Rattle.rules.specs.Resolution.{curve_position, held_position}
use Rattle.floats.proofs.SignedLaws.{mag_sub, mag_add}
use Rattle.quantizer.proofs.Signs.{held_nat}
use Rattle.resolutions.proofs.held_position.Goals as goal

-- clamped is held
clamped : (z : ℤ) → int_max (pos 0) (int_min z (pos 58)) ≡ held_z (pos 0) (pos 58) z
unfolding held_z
clamped (negsuc n) = refl
clamped (pos n) = rw (le-ltb n 0 zero-le) (go (ltb 58 n))
  where
    go : (t : Bool) → int_max (pos 0) (cond t (pos 58) (pos n)) ≡ cond t (pos 58) (pos n)
    go true = refl
    go false = rw (le-ltb n 0 zero-le)

module _ (noise factor : ℕ) (h : noise ≤ 511) (k : factor < 256) where
  abbrev down : ℕ
  down = 5 * factor / 2

  plain : to_z w64 noise -ℤ to_z w64 down ≡ pos noise -ℤ pos down
  plain = ap₂ (λ (a b : ℤ). a -ℤ b) (to_z_pos w64 {n = noise} (omega arith)) (to_z_pos w64 {n = down} (omega arith))

  less-fits : SFits w64 (to_z w64 noise -ℤ to_z w64 down)
  less-fits =
      subst (λ (z : ℤ). SFits w64 z) (sym plain) (record { sfits = lt_of_le_of_lt (mag_sub (pos noise) down) (omega arith) })

  sum : to_z w64 (of_z w64 (to_z w64 noise -ℤ to_z w64 down)) +ℤ pos 2 ≡ curve_position noise factor
  unfolding curve_position
  sum = ap (λ (z : ℤ). z +ℤ pos 2) (to_z-of_z w64 _ less-fits ∙ plain)

  sum-fits : SFits w64 (to_z w64 (of_z w64 (to_z w64 noise -ℤ to_z w64 down)) +ℤ pos 2)
  unfolding curve_position
  sum-fits =
      subst (λ (z : ℤ). SFits w64 z) (sym sum)
      (record { sfits = lt_of_le_of_lt (mag_add (pos noise -ℤ pos down) 2) (omega (arith, mag_sub (pos noise) down)) })

  position : to_z w64 (of_z w64 (to_z w64 (of_z w64 (to_z w64 noise -ℤ to_z w64 down)) +ℤ pos 2)) ≡ curve_position noise factor
  position = to_z-of_z w64 _ sum-fits ∙ sum

pub returns : goal.returns
unfolding held_position
returns c =
    let a = c.args in
    let is = to_z-of_z w64 c.clamp.result (record { sfits = c.clamp.type_inv })
    ∙ c.clamp.ensures.value
    ∙ ap (λ (z : ℤ). int_max (pos 0) (int_min z (pos 58))) (position a.noise a.factor c.requires (omega arith))
    ∙ clamped (curve_position a.noise a.factor) in
    (ap nat_abs is, subst (λ (y : ℤ). nat_abs y ≤ 58) (sym is) (held_nat 58 (curve_position a.noise a.factor)).1)
