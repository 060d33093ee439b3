-- A channel's side values are of one of two kinds; eight of them are two times four. Assumes nothing.
use mathlib.Core.Path.{◌≡◌, refl, ◌∙◌}
use mathlib.Core.List.{List}
use mathlib.Core.Bool.{true, false, cond}
use Prim.Native.Nat.{ℕ, ◌+◌, ◌≤◌}
use native.Mathlib.Omega.{arith}
use mir.Syntax.{w64}
use mir.Val.{Fits}
use lib.Dec.{ltb}
use lib.Ieee.{Float}
use lib.ListN.{length, set}
use Rattle.buffers.specs.Walk.{build}
use Rattle.buffers.proofs.Build.{filled_none, filled_more, filled-all}
use Rattle.floats.specs.Single.{mean}
use Rattle.floats.specs.declared.Average.{Average}
use Rattle.rules.specs.Layout.{secondary_at, group_count}
use Rattle.rules.specs.Factor.{factor_of}
use Rattle.rules.specs.Hfr.{spectrum_average, source_average, group_value, hfr_scale, intensity_side, scale_side, channel_side}
use Rattle.rules.specs.declared.Layout.{Layout}
use Rattle.hfr.specs.Sums.{AreFour, scale_at, four_set}

module _ (l : Layout) (c : ℕ) (xs sc : List Float) (is : List ℕ) where
  pub of-secondary : secondary_at l c ≡ true → channel_side l c xs sc is ≡ intensity_side is
  unfolding channel_side
  of-secondary e = rw e

  pub of_other : secondary_at l c ≡ false → channel_side l c xs sc is ≡ scale_side l xs sc
  unfolding channel_side
  of_other e = rw e

-- two times four values, stored: all eight
pub eight_set : (f : ℕ → ℕ) (d : List ℕ) → length d ≡ 8 → four_set f 4 (four_set f 0 d) ≡ build f 8
unfolding four_set
eight_set f d e =
    let w0 = filled_none f d in
    let w1 = filled_more f d 0 d (f 0) (omega arith) w0 refl in
    let w2 = filled_more f d 1 _ (f 1) (omega arith) w1 refl in
    let w3 = filled_more f d 2 _ (f 2) (omega arith) w2 refl in
    let w4 = filled_more f d 3 _ (f 3) (omega arith) w3 refl in
    let w5 = filled_more f d 4 _ (f 4) (omega arith) w4 refl in
    let w6 = filled_more f d 5 _ (f 5) (omega arith) w5 refl in
    let w7 = filled_more f d 6 _ (f 6) (omega arith) w6 refl in
    let w8 = filled_more f d 7 _ (f 7) (omega arith) w7 refl in
    filled-all f d 8 8 _ e (omega arith) (omega arith) w8

-- a group's value, of its two averages
pub scale_at_lem : (l : Layout) (xs sc : List Float) (i groups v : ℕ) (x y : Average) → groups ≡ group_count l → x ≡ spectrum_average l xs i
    → y ≡ source_average l sc i → v ≡ cond (ltb i groups) (factor_of (group_value (mean x) (mean y))) 0 → v ≡ scale_at l xs sc i
unfolding scale_at hfr_scale
scale_at_lem l xs sc i groups v x y g p q e = e ∙ rw (g, p, q)

pub four_set_lem : (f : ℕ → ℕ) (k : ℕ) (xs : List ℕ) (a b c d : ℕ) → AreFour f k a b c d
    → set (set (set (set xs k a) (k + 1) b) (k + 2) c) (k + 3) d ≡ four_set f k xs
unfolding four_set
four_set_lem f k xs a b c d w = rw (w.0, w.1, w.2, w.3)

-- the places of four values among eight
pub place-fits : (i k : ℕ) → i ≤ 4 → k ≤ 3 → Fits w64 (i + k)
place-fits i k h l = record { fits = omega arith }
