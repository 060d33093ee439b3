-- Eight values within the clip, counted: below resolution 8 by its zone, from 8 up by the dead zone. Assumes nothing.
use mathlib.Core.Path.{◌≡◌, refl, sym, ap, ◌∙◌}
use mathlib.Core.Bool.{Bool, true, false, cond}
use mathlib.Core.List.{List}
use Prim.Native.Nat.{ℕ, zero, suc, ◌+◌, ◌*◌, ◌≤◌, ◌<◌}
use native.Mathlib.Nat.{mul-add, mul-one, mul-zero, mul-suc}
use native.Mathlib.Omega.{arith}
use borrow.Author.Tests.{leb-true, le-ltb}
use lib.Dec.{T, leb}
use lib.Ieee.{Float, nan, le, binary32, fits}
use lib.ListN.{get_or}
use Rattle.buffers.specs.Walk.{build, every, sum_to}
use Rattle.buffers.proofs.Every.{every-at}
use Rattle.floats.specs.Single.{abs_f}
use Rattle.rules.specs.Tables.{dead_zone_table}
use Rattle.rules.specs.Scaling.{clip}
use Rattle.rules.specs.Code.{magnitude_bits}
use Rattle.rules.specs.Estimate.{value_bits}
use Rattle.rules.specs.declared.Mode.{Mode}
use Rattle.quantizer.specs.Marks.{high_at}
use Rattle.within.specs.Within.{Within, within_b}
use Rattle.within.specs.Zones.{zone_low, zone_high, zone_drop, reached_f}
use Rattle.within.proofs.ZoneLaws.{is_within, zone_counted}
use Rattle.band_counts.specs.Counts.{value_at, eight_within, sizes_of, EachWithin, EachSingle, eight_reached, eight_bits}

-- ---- one value
dropped : (b : Bool) (d : ℕ) → cond b d 0 ≡ d * cond b 1 0
dropped true d = sym (mul-one d)
dropped false d = sym (mul-zero d)

module _ (m : Mode) (k : ℕ) (h : k < 8) where
  one_value : (x : Float) → T (fits binary32 x) → Within x
      → high_at k + reached_f (zone_high k) x ≡ value_bits m k x + (reached_f (zone_low k) x + zone_drop m k * reached_f clip x)
  one_value x f w = zone_counted m k h x f w ∙ ap (λ n. value_bits m k x + (reached_f (zone_low k) x + n)) (dropped (le clip x) (zone_drop m k))

-- ---- eight
zones_sum : (h d : ℕ) (A B C D : ℕ → ℕ) (n : ℕ) → ((s : ℕ) → s < n → h + A s ≡ B s + (C s + d * D s))
    → h * n + sum_to A n ≡ sum_to B n + (sum_to C n + d * sum_to D n)
unfolding sum_to
zones_sum h d A B C D zero e = rw (mul-zero h, mul-zero d) refl
zones_sum h d A B C D (suc n) e =
    omega (arith, zones_sum h d A B C D n (λ s l. e s (omega arith)), e n (omega arith), mul-add d (sum_to D n) (D n), mul-suc h n)

module _ (m : Mode) (k : ℕ) (h : k < 8) (e : List Float) (w : EachWithin e) (f : EachSingle e) where
  pub eight_zones : 8 * high_at k + eight_reached (zone_high k) e ≡ eight_bits m k e + (eight_reached (zone_low k) e + zone_drop m k * eight_reached clip e)
  unfolding eight_reached eight_bits
  eight_zones =
      omega (
        arith,
        zones_sum (high_at k) (zone_drop m k) (λ s. reached_f (zone_high k) (value_at e s)) (λ s. value_bits m k (value_at e s))
            (λ s. reached_f (zone_low k) (value_at e s)) (λ s. reached_f clip (value_at e s)) 8 (λ s l. one_value m k h (value_at e s) (f s l) (w s l)),
      )

-- ---- the numbers are small
pub most-le : (k : ℕ) → k < 8 → high_at k ≤ 4
unfolding every high_at
most-le k h = leb-true _ _ (every-at (λ i. leb (high_at i) 4) 8 k refl h)

-- ---- from resolution 8 up
module _ (m : Mode) (r : ℕ) (h : 8 ≤ r) where
  wide_value : (x : Float) → magnitude_bits r + reached_f (get_or dead_zone_table r nan) (abs_f x) ≡ value_bits m r x
  unfolding value_bits
  wide_value x = rw (le-ltb r 8 h)

  pub eight_wide : (e : List Float) → 8 * magnitude_bits r + eight_reached (get_or dead_zone_table r nan) (sizes_of e) ≡ eight_bits m r e
  unfolding eight_reached eight_bits sizes_of sum_to build
  eight_wide e =
      omega (
        arith,
        wide_value (value_at e 0),
        wide_value (value_at e 1),
        wide_value (value_at e 2),
        wide_value (value_at e 3),
        wide_value (value_at e 4),
        wide_value (value_at e 5),
        wide_value (value_at e 6),
        wide_value (value_at e 7),
      )

-- ---- what passes the test
pub each_within : (e : List Float) → eight_within e ≡ true → EachWithin e
unfolding eight_within
each_within e t s l = is_within (value_at e s) (every-at (λ s. within_b (value_at e s)) 8 s t l)
