-- The peak of a take: of a file of bytes, some sample's magnitude, and none is larger. Assumes nothing.
use mathlib.Core.Path.{◌≡◌, refl, sym, ap, ◌∙◌, subst}
use mathlib.Core.List.{List, [], ◌∷◌}
use mathlib.Core.Bool.{true, false}
use mathlib.Core.Logic.{⊎_elim}
use Prim.Native.Nat.{ℕ, zero, suc, ◌+◌, ◌-◌, ◌*◌, ◌^◌, ◌≤◌, ◌<◌}
use native.Mathlib.Nat.{zero-lt-suc, pow-suc, pow-le-pow_right, lt_of_lt_of_le}
use native.Mathlib.Omega.{arith}
use borrow.Author.Tests.{ltb-true, ltb-false}
use lib.Dec.{T, ltb}
use lib.IntN.{ℤ, pos, neg_ℤ, nat_abs}
use lib.ListN.{length, get_or, take, drop, length-take}
use lib.Ieee.{Float, nan, fin, binary32, lt, div, of_int, fits, of_bits}
use lib.Ieee.Bits.{of_bits-fits}
use lib.Ieee.Fits.{div-fits}
use lib.Ieee.Scale.{finite}
use Rattle.buffers.specs.Walk.{AtMost}
use Rattle.buffers.proofs.Build.{build-at, length-build}
use Rattle.buffers.proofs.Tests.{cond_both}
use Rattle.buffers.proofs.Every.{every-at}
use Rattle.buffers.proofs.Most.{part-most}
use Rattle.floats.specs.Single.{abs_f}
use Rattle.numbers.specs.Numbers.{of_low}
use Rattle.rules_files.specs.Wav.{low_at, is_depth, sample_width, over_power, signed_sample, sample_of, whole_samples, sample_at, all_finite, samples_of, note_of}
use Rattle.rules_files.specs.declared.wav.WavData.{WavData}
use Rattle.rules_files.proofs.Samples.{depth_cases, sample_exact}
use Rattle.wav_demands.proofs.Peaks.{peak_largest}

-- ---- what stands in n bytes

low_below : (s : List ℕ) → AtMost 255 s → of_low s < 256 ^ length s
unfolding of_low
low_below [] h = omega arith
low_below (b ∷ s) h = rw (pow-suc 256 (length s)) (omega (arith, low_below s (λ k. h (suc k)), h 0))

low-width : (wav : List ℕ) (at n : ℕ) → AtMost 255 wav → low_at wav at n < 256 ^ n
low-width wav at n h =
    let l : length (take n (drop at wav)) ≤ n = omega (arith, length-take n (drop at wav)) in
    lt_of_lt_of_le (low_below (take n (drop at wav)) (part-most 255 at n wav h)) (pow-le-pow_right (zero-lt-suc 255) l)

-- ---- a sample is a float of single precision

-- its size
abbrev Small : ℤ → Type 0
Small z = nat_abs z < 16777216

small-neg : (n : ℕ) → n ≤ 8388608 → Small (neg_ℤ (pos n))
small-neg zero h = omega arith
small-neg (suc n) h = omega arith

small_signed : (half p : ℕ) → half ≤ 8388608 → p < half + half → Small (signed_sample half p)
unfolding signed_sample
small_signed half p h q =
    cond_both Small (ltb p half) (λ e. let l : p < half = ltb-true p half e in omega arith)
    (λ e. let l : half ≤ p = ltb-false p half e in small-neg (half + half - p) (omega arith))

-- a quotient is one
over-fits : (half p k : ℕ) → half ≤ 8388608 → p < half + half → k ≤ 149 → T (fits binary32 (over_power (signed_sample half p) k))
over-fits half p k h q g =
    let z : ℤ = signed_sample half p in
    subst (λ (x : Float). T (fits binary32 x)) (sample_exact z k (small_signed half p h q) g) (div-fits binary32 (of_int binary32 z) (fin false 1 (pos k)))

sample-fits : (wav : List ℕ) (depth body k : ℕ) → AtMost 255 wav → is_depth depth ≡ true → T (fits binary32 (sample_at wav depth body k))
unfolding sample_at sample_of
sample-fits wav depth body k h e =
    ⊎_elim (λ (d : depth ≡ 16). rw d (over-fits 32768 (low_at wav (body + k * 2) 2) 15 (omega arith) (low-width wav (body + k * 2) 2 h) (omega arith)))
    (⊎_elim (λ (d : depth ≡ 24). rw d (over-fits 8388608 (low_at wav (body + k * 3) 3) 23 (omega arith) (low-width wav (body + k * 3) 3 h) (omega arith)))
    (λ (d : depth ≡ 32). rw d (of_bits-fits binary32 (low_at wav (body + k * 4) 4)))) (depth_cases depth e)

-- ---- the peak

module _ (wav : List ℕ) (d : WavData) (h : AtMost 255 wav) (deep : is_depth d.format.depth ≡ true)
    (f : all_finite wav d.format.depth d.body (whole_samples wav d) ≡ true) (some : 0 < whole_samples wav d) where
  abbrev sample : ℕ → Float
  sample = sample_at wav d.format.depth d.body

  sampled : (i : ℕ) → i < length (samples_of wav d) → get_or (samples_of wav d) i nan ≡ sample i
  sampled i q = build-at sample (whole_samples wav d) i nan (rw (length-build sample (whole_samples wav d)) at q)

  all_finite_lem : (i : ℕ) → i < length (samples_of wav d) → finite (get_or (samples_of wav d) i nan) ≡ true
  unfolding all_finite
  all_finite_lem i q = ap finite (sampled i q) ∙ every-at (λ k. finite (sample k)) (whole_samples wav d) i f (rw (length-build sample (whole_samples wav d)) at q)

  all_fit : (i : ℕ) → i < length (samples_of wav d) → T (fits binary32 (get_or (samples_of wav d) i nan))
  all_fit i q = subst (λ (x : Float). T (fits binary32 x)) (sym (sampled i q)) (sample-fits wav d.format.depth d.body i h deep)

  pub take-peak : ((k : ℕ) × (k < whole_samples wav d) × ((note_of (samples_of wav d)).peak ≡ abs_f (sample_at wav d.format.depth d.body k)))
      × ((k : ℕ) → k < whole_samples wav d → lt (note_of (samples_of wav d)).peak (abs_f (sample_at wav d.format.depth d.body k)) ≡ false)
  take-peak =
      let l : length (samples_of wav d) ≡ whole_samples wav d = length-build sample (whole_samples wav d) in
      let p = peak_largest (samples_of wav d) (subst (λ (n : ℕ). 0 < n) (sym l) some) all_finite_lem all_fit in (
        (p.0.0, subst (λ (n : ℕ). p.0.0 < n) l p.0.1, p.0.2 ∙ ap abs_f (sampled p.0.0 p.0.1)),
        λ k q. let g : k < length (samples_of wav d) = subst (λ (n : ℕ). k < n) (sym l) q in
            subst (λ (x : Float). lt (note_of (samples_of wav d)).peak (abs_f x) ≡ false) (sampled k g) (p.1 k g),
      )
