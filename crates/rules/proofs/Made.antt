-- What the stage makes of one channel has the stated length, and a factor is at most 63. Assumes nothing.
use mathlib.Core.Path.{◌≡◌}
use mathlib.Core.List.{List, [], ◌∷◌}
use mathlib.Core.Bool.{cond}
use Prim.Native.Nat.{ℕ, ◌≤◌}
use native.Mathlib.Omega.{arith}
use lib.Dec.{ltb}
use lib.Ieee.{Float, le}
use lib.ListN.{length, take, length-take}
use Rattle.buffers.proofs.Build.{length-build}
use Rattle.buffers.proofs.Blocks.{length-blocks}
use Rattle.buffers.proofs.Tests.{cond_both, cond_bound}
use Rattle.rules.specs.Tables.{scaling_table}
use Rattle.rules.specs.Layout.{secondary_at}
use Rattle.rules.specs.Factor.{count_le, factor_of, peak_of, band_factor, channel_factors}
use Rattle.rules.specs.Scaling.{scaled_band, channel_scaled}
use Rattle.rules.specs.Hfr.{intensity_side, scale_side, channel_side}
use Rattle.rules.specs.declared.Layout.{Layout}

count_le_lem : (v : Float) (xs : List Float) → count_le v xs ≤ length xs
unfolding count_le
count_le_lem v [] = omega arith
count_le_lem v (x ∷ xs) =
    let h = count_le_lem v xs in
    let k : cond (le x v) 1 0 ≤ 1 = cond_both (λ n. n ≤ 1) (le x v) (λ _. omega arith) (λ _. omega arith) in
    omega arith

pub factor_le : (v : Float) → factor_of v ≤ 63
unfolding factor_of
factor_le v = omega (arith, count_le_lem v (take 63 scaling_table), length-take 63 scaling_table)

pub factors-size : (xs : List Float) (coded : ℕ) → length (channel_factors xs coded) ≡ 128
unfolding channel_factors
factors-size xs coded = length-build _ 128

pub band-held : (xs : List Float) (coded b : ℕ) → band_factor xs coded b ≤ 63
unfolding band_factor
band-held xs coded b = cond_bound (ltb b coded) (λ _. factor_le (peak_of xs b)) (λ _. omega arith)

pub intensity_size : (is : List ℕ) → length (intensity_side is) ≡ 8
unfolding intensity_side
intensity_size is = length-build _ 8

pub scale-size : (l : Layout) (xs sc : List Float) → length (scale_side l xs sc) ≡ 8
unfolding scale_side
scale-size l xs sc = length-build _ 8

pub side-size : (l : Layout) (c : ℕ) (xs sc : List Float) (is : List ℕ) → length (channel_side l c xs sc is) ≡ 8
unfolding channel_side
side-size l c xs sc is = cond_both (λ (ys : List ℕ). length ys ≡ 8) (secondary_at l c) (λ _. intensity_size is) (λ _. scale-size l xs sc)

pub scaled-size : (xs : List Float) (fs : List ℕ) (coded : ℕ) → length (channel_scaled xs fs coded) ≡ 1024
unfolding channel_scaled scaled_band
scaled-size xs fs coded = length-blocks (scaled_band xs fs coded) 8 128 (λ b _. length-build _ 8) 128 (omega arith)
