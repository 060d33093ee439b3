-- Which refusal comes when: what each end has, every end has. Assumes nothing.
use mathlib.Core.Path.{◌≡◌}
use mathlib.Core.Logic.{◌↔◌}
use mathlib.Core.List.{List}
use mathlib.Core.Bool.{true, false, not}
use Prim.Native.Nat.{ℕ, ◌≤◌, ◌<◌}
use native.Mathlib.Omega.{arith}
use borrow.Author.Tests.{not-true, not-false, ltb-true, ltb-false, eqb-true, eqb-false, lt-ltb, ne_eqb}
use lib.Dec.{eqb, ltb}
use lib.Ieee.{Float}
use lib.ListN.{length}
use Rattle.buffers.proofs.Tests.{cond_both}
use Rattle.rules.specs.Refusals.{refused}
use Rattle.rules_files.specs.Wav.{is_depth, whole_samples, all_finite, WavLeft, wav_refused, wav_taken, data_read}
use Rattle.rules_files.specs.declared.wav.WavData.{WavData}

module _ (wav : List ℕ) (d : WavData) (samples : List Float) where
  abbrev depth : ℕ
  depth = d.format.depth

  abbrev count : ℕ
  count = whole_samples wav d

  -- behind 22 and the walk: 23, 24, 30, 2, 25 in this order
  pub data_case : (P : WavLeft → Type 0)
      → (d.size ≡ 0 → P (wav_refused 23 samples))
      → ((d.size ≡ 0 → ⊥) → is_depth d.format.depth ≡ false → P (wav_refused 24 samples))
      → ((d.size ≡ 0 → ⊥) → is_depth d.format.depth ≡ true → 16777216 < whole_samples wav d → P (wav_refused 30 samples))
      → ((d.size ≡ 0 → ⊥) → is_depth d.format.depth ≡ true → whole_samples wav d ≤ 16777216 → length samples < whole_samples wav d → P (wav_refused 2 samples))
      → ((d.size ≡ 0 → ⊥) → is_depth d.format.depth ≡ true → whole_samples wav d ≤ 16777216 → whole_samples wav d ≤ length samples
      → all_finite wav d.format.depth d.body (whole_samples wav d) ≡ false → P (wav_refused 25 samples))
      → ((d.size ≡ 0 → ⊥) → is_depth d.format.depth ≡ true → whole_samples wav d ≤ 16777216 → whole_samples wav d ≤ length samples
      → all_finite wav d.format.depth d.body (whole_samples wav d) ≡ true → P (wav_taken wav d samples))
      → P (data_read wav d samples)
  unfolding data_read
  data_case P empty deep many short endless taken =
      cond_both P (eqb d.size 0) (λ a. empty (eqb-true _ _ a))
      (λ a. cond_both P (not (is_depth depth)) (λ b. deep (eqb-false _ _ a) (not-true _ b))
      (λ b. cond_both P (ltb 16777216 count) (λ c. many (eqb-false _ _ a) (not-false _ b) (ltb-true _ _ c))
      (λ c. cond_both P (ltb (length samples) count) (λ e. short (eqb-false _ _ a) (not-false _ b) (ltb-false _ _ c) (ltb-true _ _ e))
      (λ e. cond_both P (not (all_finite wav depth d.body count))
      (λ f. endless (eqb-false _ _ a) (not-false _ b) (ltb-false _ _ c) (ltb-false _ _ e) (not-true _ f))
      (λ f. taken (eqb-false _ _ a) (not-false _ b) (ltb-false _ _ c) (ltb-false _ _ e) (not-false _ f))))))

  -- and back: more than 16,777,216 whole samples of a known depth are 30, whatever the buffer
  pub thirty : (d.size ≡ 0 → ⊥) → is_depth d.format.depth ≡ true → 16777216 < whole_samples wav d → data_read wav d samples ≡ wav_refused 30 samples
  unfolding data_read
  thirty a b c = rw (ne_eqb _ _ a, b, lt-ltb _ _ c)
