use mathlib.Core.Path.{◌≡◌, ap, ◌∙◌}
use Prim.Native.Nat.{ℕ, ◌+◌}
use native.Mathlib.Omega.{arith}
use Rattle.std.proofs.Common.{rules}
use Rattle.hfr.proofs.Taken.{has_band, none-low, low_more, lane_none, lane_more, lane_all, count_falls}
use Rattle.hfr.proofs.averages.averages_of.Goals as goal

pub loop-j-init : goal.loop-j-init
loop-j-init g c =
    let e = c.no_averages-averages.ensures in (
      (lane_none _ _ _ _ _ _ _ e.0, lane_none _ _ _ _ _ _ _ e.1, lane_none _ _ _ _ _ _ _ e.2, lane_none _ _ _ _ _ _ _ e.3),
      none-low _ e.0,
      none-low _ e.1,
      none-low _ e.2,
      none-low _ e.3,
    )

pub four_bands-requires : goal.four_bands-requires
four_bands-requires g c =
    let counts = c.four_counts-counts.ensures in
    let few = c.requires.xs_len in
    (few.2, few.1, omega (arith, counts.a_bound.0, c.loop-j-test.true), has_band c.args.g _ c.args.group _ _ counts.are_four.0 c.loop-j-test.true)

pub loop-j-preserved : goal.loop-j-preserved
loop-j-preserved g c =
    let a = c.args in
    let w = c.loop-j.invariant in
    let counts = c.four_counts-counts.ensures.are_four in
    let at = c.four_bands.ensures.are_four in
    let next = c.with_eights-sums.ensures in
    let e = c.with_bands-averages.ensures in
    let place : ℕ → ℕ = g.B.Bands.place a.bands in
    let x = c.loop-j.averages in
    let s = c.map.result in
    let sum : (s.a ≡ x.a.sum) × (s.b ≡ x.b.sum) × (s.c ≡ x.c.sum) × (s.d ≡ x.d.sum) = search rules in
    let b = c.four_bands.result in
    let p = c.map-at.result in
    let placed : (p.a ≡ place b.a) × (p.b ≡ place b.b) × (p.c ≡ place b.c) × (p.d ≡ place b.d) = search rules in
    let more = lane_more a.xs.now place g.B.Bands.STRIDE a.g a.limit c.loop-j.j in (
      (
        more a.group _ _ _ _ _ _ counts.0 w.0.0 (placed.0 ∙ ap place at.0) sum.0 next.0 e.a_value.0,
        more (a.group + 1) _ _ _ _ _ _ counts.1 w.0.1 (placed.1 ∙ ap place at.1) sum.1 next.1 e.a_value.1,
        more (a.group + 2) _ _ _ _ _ _ counts.2 w.0.2 (placed.2 ∙ ap place at.2) sum.2 next.2 e.a_value.2,
        more (a.group + 3) _ _ _ _ _ _ counts.3 w.0.3 (placed.3 ∙ ap place at.3) sum.3 next.3 e.a_value.3,
      ),
      low_more _ _ _ w.1 e.count_bound.0,
      low_more _ _ _ w.2 e.count_bound.1,
      low_more _ _ _ w.3 e.count_bound.2,
      low_more _ _ _ w.4 e.count_bound.3,
    )

pub returns-clause-are_four : goal.returns-clause-are_four
returns-clause-are_four g c =
    let a = c.args in
    let w = c.loop-j.invariant in
    let counts = c.four_counts-counts.ensures.are_four in
    let all = lane_all a.xs.now (g.B.Bands.place a.bands) g.B.Bands.STRIDE a.g a.limit c.loop-j.j in
    let falls = count_falls a.xs.now (g.B.Bands.place a.bands) g.B.Bands.STRIDE a.g a.limit a.group in (
      all a.group _ (omega (arith, counts.0)) w.0.0,
      all (a.group + 1) _ (omega (arith, counts.0, falls 1)) w.0.1,
      all (a.group + 2) _ (omega (arith, counts.0, falls 2)) w.0.2,
      all (a.group + 3) _ (omega (arith, counts.0, falls 3)) w.0.3,
    )
