-- Counting, judging and storing, as the loops do it. Assumes nothing.
use mathlib.Core.Path.{◌≡◌, refl, sym}
use mathlib.Core.List.{List}
use mathlib.Core.Bool.{true, false}
use Prim.Native.Nat.{ℕ, ◌+◌, ◌-◌, ◌*◌, ◌/◌, ◌≤◌, ◌<◌, min}
use native.Mathlib.Nat.{mul-le-mul_right, add-mul}
use native.Mathlib.Omega.{arith}
use lib.ListN.{length}
use lib.Ieee.{binary32, of_bits}
use lib.Ieee.Scale.{finite}
use Rattle.buffers.proofs.Every.{every-none, every_more, every-all, every-at, every_fails}
use Rattle.rules_files.specs.Wav.{low_at, sample_width, whole_samples, sample_of, sample_at, all_finite}
use Rattle.rules_files.specs.declared.wav.WavData.{WavData}
use Rattle.rules_files.proofs.Samples.{whole-within, whole-finite}

pub counted : (wav : List ℕ) (d : WavData) → d.body ≤ length wav → (present : ℕ) → present ≡ min d.size (length wav - d.body)
    → (present / sample_width d.format.depth ≡ whole_samples wav d)
    × (d.body + present / sample_width d.format.depth * sample_width d.format.depth ≤ length wav)
unfolding whole_samples
counted wav d h present e = rw e (refl, whole-within wav d h)

-- ---- judging

module _ (wav : List ℕ) (depth body : ℕ) where
  pub finite-none : all_finite wav depth body 0 ≡ true
  unfolding all_finite
  finite-none = every-none (λ k. finite (sample_at wav depth body k))

  pub finite_more : (k : ℕ) → all_finite wav depth body k ≡ true → finite (sample_at wav depth body k) ≡ true → all_finite wav depth body (k + 1) ≡ true
  unfolding all_finite
  finite_more k h e = every_more (λ j. finite (sample_at wav depth body j)) k h e

  pub finite_fails : (n k : ℕ) → k < n → finite (sample_at wav depth body k) ≡ false → false ≡ all_finite wav depth body n
  unfolding all_finite
  finite_fails n k h e = sym (every_fails (λ j. finite (sample_at wav depth body j)) n k h e)

  pub finite-at : (n k : ℕ) → all_finite wav depth body n ≡ true → k < n → finite (sample_at wav depth body k) ≡ true
  unfolding all_finite
  finite-at n k h q = every-at (λ j. finite (sample_at wav depth body j)) n k h q

  pub finite-whole : (n : ℕ) → (depth ≡ 32 → ⊥) → true ≡ all_finite wav depth body n
  unfolding all_finite sample_at
  finite-whole n h = sym (every-all (λ j. finite (sample_at wav depth body j)) n
      (λ i _. whole-finite depth (low_at wav (body + i * sample_width depth) (sample_width depth)) h))

  -- a float by its pattern
  pub by_pattern : (k p : ℕ) → depth ≡ 32 → p ≡ low_at wav (body + k * 4) 4 → finite (of_bits binary32 p) ≡ finite (sample_at wav depth body k)
  unfolding sample_at sample_of
  by_pattern k p e q = rw (e, q)

-- ---- sample k of n lies in the file

pub within : (body n k w len : ℕ) → k < n → body + n * w ≤ len → body + k * w + w ≤ len
within body n k w len h q = omega (arith, mul-le-mul_right w h, add-mul k 1 w)

pub of_four : (body n depth len : ℕ) → depth ≡ 32 → body + n * sample_width depth ≤ len → body + n * 4 ≤ len
of_four body n depth len e h = rw e at h
