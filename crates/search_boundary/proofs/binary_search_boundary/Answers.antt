use mathlib.Core.Path.{sym, ◌∙◌}
use Prim.Native.Nat.{ℕ, ◌≤◌, ◌<◌, ◌+◌, ◌-◌, ◌/◌}
use native.Mathlib.Omega.{arith}
use borrow.Author.Rules.{rules}
use Rattle.rules.proofs.Boundaries.{boundary_start, narrow_up, narrow-down, narrow_end}
use Rattle.estimate.proofs.Probes.{probe_over, probe_fits}
use Rattle.search_boundary.proofs.binary_search_boundary.Goals as goal

-- the upper half of what is left
module _ (low high : ℕ) (h : low + 1 < high) where
  upper : (low + high) / 2 ≤ high
  upper = omega arith

  upper_short : high - (low + high) / 2 < high - low
  upper_short = omega arith

  upper_low : high ≤ 127 → (low + high) / 2 ≤ 126
  upper_low top = omega arith

pub loop-low-init : goal.loop-low-init
loop-low-init c = (search rules, search rules, search rules, boundary_start _, search rules, search rules)

pub move_boundary-probed-requires : goal.move_boundary-probed-requires
move_boundary-probed-requires c =
    record { probe_fits = c.requires.probe_fits.0; level_nonzero = (c.requires.probe_fits.1, c.requires.probe_fits.2, search rules, search rules); used_value = (search rules, search rules) }

pub loop-low-preserved-then-available-probed : goal.loop-low-preserved-then-available-probed
loop-low-preserved-then-available-probed c =
    let i = c.loop-low.invariant in
    let h = c.loop-low-test.true in (
      omega arith,
      omega arith,
      i.2,
      i.3 ∙ narrow-down _ _ _ h (probe_over _ _ _ _ _ _ c.move_boundary-probed.ensures c.if-available-probed.true),
      i.4,
      i.5,
    )

pub loop-low-smaller : goal.loop-low-smaller
loop-low-smaller c = upper_short _ _ c.loop-low-test.true

pub loop-low-preserved : goal.loop-low-preserved
loop-low-preserved c =
    let i = c.loop-low.invariant in
    let h = c.loop-low-test.true in
    let e = c.move_boundary-probed.ensures in (
      upper _ _ h,
      i.1,
      upper_low _ _ h i.1,
      i.3 ∙ narrow_up _ _ _ h (probe_fits _ _ _ _ _ _ e c.if-available-probed.false),
      e,
      c.if-available-probed.false,
    )

pub higher_or_lower-requires : goal.higher_or_lower-requires
higher_or_lower-requires c =
    let p = c.requires in
    let i = c.loop-low.invariant in
    record { probe_fits = p.probe_fits.0; level_nonzero = (p.probe_fits.1, p.probe_fits.2, i.0, i.1); used_value = (i.4, i.5) }

pub returns : goal.returns
returns c =
    let e = c.higher_or_lower.ensures in
    (e.0 ∙ sym (c.loop-low.invariant.3 ∙ narrow_end _ _ _ _ c.loop-low-test.false), e.1)
