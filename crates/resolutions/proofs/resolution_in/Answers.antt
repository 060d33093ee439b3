-- `resolutions::resolution_in` meets its contract. Assumes nothing.
use mathlib.Core.Path.{ap, ◌∙◌}
use Prim.Native.Nat.{ℕ, min, max}
use native.Mathlib.Omega.{arith}
use lib.ListN.{get_or}
use borrow.Author.Tests.{eq-eqb, ne_eqb}
use Rattle.rules.specs.Tables.{resolution_curve}
use Rattle.rules.specs.Resolution.{resolution_in}
use Rattle.resolutions.proofs.resolution_in.Goals as goal

pub returns-then-factor-eq0 : goal.returns-then-factor-eq0
unfolding resolution_in
returns-then-factor-eq0 c = (rw (eq-eqb _ _ c.if-factor-eq0.true), omega arith)

pub returns-else-factor-eq0 : goal.returns-else-factor-eq0
unfolding resolution_in
returns-else-factor-eq0 c =
    let a = c.args in (
      rw (ne_eqb _ _ c.if-factor-eq0.false)
          (c.min.ensures
          ∙ ap (λ (n : ℕ). min n a.highest)
          (c.max.ensures
          ∙ ap (λ (n : ℕ). max n a.lowest) (c.curve.ensures.0
          ∙ ap (λ (n : ℕ). get_or resolution_curve n 0) c.held_position.ensures.0))),
      omega (arith, c.min.ensures),
    )
