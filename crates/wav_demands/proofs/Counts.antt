-- How many samples a take can have. Assumes nothing.
use mathlib.Core.Path.{◌≡◌}
use mathlib.Core.List.{List, [], ◌∷◌}
use mathlib.Core.Bool.{true, not}
use Prim.Native.Nat.{ℕ, ◌+◌, ◌-◌, ◌*◌, ◌≤◌, min}
use native.Mathlib.Nat.{div-mul-le_self, mul-le-mul_left}
use native.Mathlib.Omega.{arith}
use borrow.Author.Tests.{not-false}
use lib.Dec.{eqb, ltb}
use lib.Ieee.{Float}
use lib.ListN.{length}
use Rattle.std.specs.Prelude.{Option, Some, None}
use Rattle.buffers.proofs.Tests.{cond_both}
use Rattle.rules.specs.Refusals.{delivered}
use Rattle.rules_files.specs.Wav.{is_wave, is_depth, sample_width, whole_samples, all_finite, walked, WavLeft, wav_refused, wav_taken, data_read, walk_read, read_wav}
use Rattle.rules_files.specs.declared.wav.WavData.{WavData}
use Rattle.rules_files.proofs.Samples.{width-within}

-- Half as many places as the file has bytes always suffice.
pub count_bound : (wav : List ℕ) (d : WavData) → is_depth d.format.depth ≡ true → 2 * whole_samples wav d ≤ length wav
unfolding whole_samples
count_bound wav d e =
    let w : ℕ = sample_width d.format.depth in
    let present : ℕ = min d.size (length wav - d.body) in
    omega (arith, div-mul-le_self present w, mul-le-mul_left (whole_samples wav d) (width-within d.format.depth e).0)

-- and so of a call that delivers
abbrev Bounds : (wav : List ℕ) (x : WavLeft) → Type 0
Bounds wav x = (a b c n : ℕ) → x.outcome ≡ delivered (a ∷ b ∷ c ∷ n ∷ []) → 2 * n ≤ length wav

none : (wav : List ℕ) (samples : List Float) (k : ℕ) → Bounds wav (wav_refused k samples)
none wav samples k a b c n e = let z : ◌≡◌ {A = ℕ} 0 1 = cc in absurd (omega arith)

taken : (wav : List ℕ) (d : WavData) (samples : List Float) → is_depth d.format.depth ≡ true → Bounds wav (wav_taken wav d samples)
unfolding wav_taken
taken wav d samples h a b c n e = let z : whole_samples wav d ≡ n = cc in omega (arith, count_bound wav d h)

data_bounds : (wav : List ℕ) (d : WavData) (samples : List Float) → Bounds wav (data_read wav d samples)
unfolding data_read
data_bounds wav d samples =
    cond_both (Bounds wav) (eqb d.size 0) (λ _. none wav samples 23)
    (λ _. cond_both (Bounds wav) (not (is_depth d.format.depth)) (λ _. none wav samples 24)
    (λ h. cond_both (Bounds wav) (ltb 16777216 (whole_samples wav d)) (λ _. none wav samples 30)
    (λ _. cond_both (Bounds wav) (ltb (length samples) (whole_samples wav d)) (λ _. none wav samples 2)
    (λ _. cond_both (Bounds wav) (not (all_finite wav d.format.depth d.body (whole_samples wav d))) (λ _. none wav samples 25)
    (λ _. taken wav d samples (not-false _ h))))))

walk_bounds : (wav : List ℕ) (w : Option WavData) (samples : List Float) → Bounds wav (walk_read wav w samples)
unfolding walk_read
walk_bounds wav (Some d) samples = data_bounds wav d samples
walk_bounds wav None samples = none wav samples 23

pub taken_bound : (wav : List ℕ) (samples : List Float) (channels rate depth count : ℕ)
    → (read_wav wav samples).outcome ≡ delivered (channels ∷ rate ∷ depth ∷ count ∷ []) → 2 * count ≤ length wav
unfolding read_wav
taken_bound wav samples = cond_both (Bounds wav) (not (is_wave wav)) (λ _. none wav samples 22) (λ _. walk_bounds wav (walked wav) samples)
