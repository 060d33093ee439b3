-- `layouts::groups` meets its contract. Assumes nothing.
use Prim.Native.Nat.{ℕ, ◌+◌, ◌-◌, ◌/◌, ◌%◌, ◌<◌}
use native.Mathlib.Omega.{arith}
use mathlib.Core.Path.{◌≡◌, refl, sym, ◌∙◌}
use borrow.Author.Tests.{eq-eqb}
use Rattle.std.specs.Prelude.{min, zero, suc, ◌*◌}
use Rattle.std.proofs.Math.Nat.{mod-lt}
use Rattle.std.proofs.lemmas.Nat.{div-add-mod', div-mul-add}
use Rattle.rules.specs.Layout.{group_count, ceil_div}
use Rattle.rules.proofs.Layouts.{groups_are}
use Rattle.layouts.proofs.groups.Goals as goal

-- rounded up, by the remainder
rounded_up : (a b : ℕ) → 0 < b → a / b + min 1 (a % b) ≡ (a + (b - 1)) / b
rounded_up a b h = by_rest (a % b) refl (mod-lt a h)
  where
    by_rest : (r : ℕ) → r ≡ a % b → r < b → a / b + min 1 r ≡ (a + (b - 1)) / b
    by_rest zero e l =
        let whole : a + (b - 1) ≡ a / b * b + (b - 1) = omega (arith, div-add-mod' a b) in
        rw (whole, div-mul-add (a / b) b (b - 1) (omega arith)) (omega arith)
    by_rest (suc r) e l =
        let more : a + (b - 1) ≡ (a / b + 1) * b + r = omega (arith, div-add-mod' a b) in
        rw (more, div-mul-add (a / b + 1) b r (omega arith)) (omega arith)

pub returns-then-g-eq0 : goal.returns-then-g-eq0
unfolding group_count ceil_div
returns-then-g-eq0 c = (rw (eq-eqb _ _ (sym c.bands_per_group-g.ensures.0 ∙ c.if-g-eq0.true)), omega arith)

pub returns-else-g-eq0 : goal.returns-else-g-eq0
returns-else-g-eq0 c =
    let g = groups_are c.args.layout _ _ c.bands_per_group-g.ensures.0 c.start.ensures.0 c.if-g-eq0.false in
    let r = rounded_up (c.args.layout.total - c.start.result) c.bands_per_group-g.result (omega arith) in
    (c.div_ceil.ensures ∙ r ∙ g.0, rw (c.div_ceil.ensures, r) g.1)
