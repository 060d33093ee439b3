-- A channel's factors: those of its tops, and zeros past the coded count. Assumes nothing.
use mathlib.Core.Path.{◌≡◌, sym, ap, ◌∙◌}
use mathlib.Core.List.{List, ◌++◌}
use Prim.Native.Nat.{ℕ, ◌-◌, ◌≤◌}
use native.Mathlib.Omega.{arith}
use lib.Ieee.{Float, nan}
use lib.ListN.{length, get_or, take, drop, replicate, length-append, length-drop}
use lib.Seq.{get_or-take, take_at, length-take-le}
use Rattle.buffers.specs.Walk.{build}
use Rattle.buffers.proofs.Build.{length-build}
use Rattle.rules.specs.Factor.{factor_of, peak_of, band_factor, channel_factors}
use Rattle.rules.proofs.Cuts.{build-same}
use Rattle.factors.proofs.Cleared.{front_at, cleared-is, build-past}

-- tops are stored over the first n of ts, their factors over the first n of fs, and zeros over the rest of these
module _ (xs : List Float) (n : ℕ) (h : n ≤ 128) (tops ts : List Float) (long : length ts ≡ 128) (e : tops ≡ build (peak_of xs) (length (take n ts))) where
  pub channel_laid : (factors fs zs : List ℕ) → length fs ≡ 128
      → factors ≡ build (λ b. factor_of (get_or (take n (tops ++ drop n ts)) b nan)) (length (take n fs))
      → zs ≡ replicate (length (take (length (factors ++ drop n fs) - n) (drop n (factors ++ drop n fs)))) 0
      → take n (factors ++ drop n fs) ++ (zs ++ drop (length (factors ++ drop n fs) - n) (drop n (factors ++ drop n fs))) ≡ channel_factors xs n
  unfolding channel_factors band_factor
  channel_laid factors fs zs l f z =
      let all : List Float = tops ++ drop n ts in
      let stored : all ≡ build (peak_of xs) n ++ drop n ts =
      ap (λ (t : List Float). t ++ drop n ts) (e ∙ ap (build (peak_of xs)) (length-take-le n ts (omega arith))) in
      let front : factors ≡ build (λ b. factor_of (peak_of xs b)) n = f
      ∙ ap (build (λ b. factor_of (get_or (take n all) b nan))) (length-take-le n fs (omega arith))
      ∙ build-same _ _ n (λ b m. ap factor_of (get_or-take n all b nan m ∙ front_at nan (peak_of xs) n all (drop n ts) stored b m)) in
      let count : length factors ≡ n = ap length front ∙ length-build _ n in
      let whole : length (factors ++ drop n fs) ≡ 128 = length-append factors (drop n fs) ∙ omega (arith, length-drop n fs) in
      cleared-is 0 128 n (factors ++ drop n fs) zs whole h z
      ∙ ap (λ ys. ys ++ replicate (128 - n) 0) (take_at factors (drop n fs) n count ∙ front)
      ∙ sym (build-past 0 (λ b. factor_of (peak_of xs b)) n 128 h)
