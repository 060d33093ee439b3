use mathlib.Core.Path.{◌≡◌, refl, sym, ◌∙◌}
use native.Mathlib.Omega.{arith}
use borrow.Author.Rules.{rules}
use Rattle.rules.proofs.Levels.{level-start, halve_up, halve-down, halve_end}
use Rattle.estimate.proofs.Probes.{probe_over, probe_fits}
use Rattle.search_level.proofs.Searching.{kept-fits}
use Rattle.search_level.proofs.halve_levels.Goals as goal

pub loop-low-init : goal.loop-low-init
loop-low-init c = (search rules, search rules, level-start _, search rules, λ _. refl)

pub loop-low-preserved-then-available-bits : goal.loop-low-preserved-then-available-bits
loop-low-preserved-then-available-bits c =
    let i = c.loop-low.invariant in (
      omega arith,
      omega arith,
      i.2 ∙ halve_up _ _ _ (omega arith) (probe_over _ _ _ _ _ _ c.calculate_used_bits-bits.ensures c.if-available-bits.true),
      i.3,
      i.4,
    )

pub loop-low-preserved : goal.loop-low-preserved
loop-low-preserved c =
    let e = c.calculate_used_bits-bits.ensures in (
      omega arith,
      omega arith,
      c.loop-low.invariant.2 ∙ halve-down _ _ _ (omega arith) (probe_fits _ _ _ _ _ _ e c.if-available-bits.false),
      (refl, omega arith, e, c.if-available-bits.false),
      search rules,
    )

pub returns-clause-some : goal.returns-clause-some
returns-clause-some c =
    let i = c.loop-low.invariant in
    let e : c.loop-low.low ≡ c.loop-low.high = omega arith in
    kept-fits _ _ _ _ (sym e ∙ sym (i.2 ∙ halve_end _ _ _ c.loop-low-test.false)) c.loop-low.found i.3

pub returns-clause-none : goal.returns-clause-none
returns-clause-none c n =
    let i = c.loop-low.invariant in
    let e : c.loop-low.low ≡ c.loop-low.high = omega arith in
    i.2 ∙ halve_end _ _ _ c.loop-low-test.false ∙ e ∙ i.4 n
