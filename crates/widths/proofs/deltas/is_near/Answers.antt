-- `widths::deltas::is_near` meets its contract. Assumes nothing.
use mathlib.Core.Path.{◌≡◌, ap, ◌∙◌}
use native.Mathlib.Omega.{arith}
use lib.IntN.{nat_abs}
use mir.Syntax.{w32}
use mir.ValLaws.{to_z-of_z}
use Rattle.rules.specs.Width.{reach_of, delta_of, near}
use Rattle.widths.proofs.deltas.is_near.Goals as goal

pub returns : goal.returns
unfolding near
returns c =
    let signed = to_z-of_z w32 c.delta.result (record { sfits = c.delta.type_inv }) ∙ c.delta.ensures in
    let far : c.unsigned_abs.result ≡ nat_abs (delta_of c.args.previous c.args.factor) = c.unsigned_abs.ensures.value ∙ ap nat_abs signed in
    let m : c.reach.result ≡ reach_of c.args.d = c.reach.ensures.0 in
    grind (arith, far, m)
