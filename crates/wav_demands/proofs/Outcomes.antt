-- Which refusals the WAV reader has and what they leave; two outcomes that its contract allows coincide. Assumes nothing.
use mathlib.Core.Path.{◌≡◌, refl, sym, ap, ap₂, ◌∙◌}
use mathlib.Core.List.{List, [], ◌∷◌}
use mathlib.Core.Bool.{not}
use Prim.Native.Nat.{ℕ, ◌-◌}
use native.Mathlib.Omega.{arith}
use lib.Dec.{eqb, ltb}
use lib.Ieee.{Float, nan}
use lib.ListN.{length, get_or}
use Rattle.std.specs.Prelude.{Option, Some, None, Result, Ok, Err}
use Rattle.buffers.proofs.Tests.{cond_both}
use Rattle.rules.specs.Refusals.{Outcome, delivered, refused}
use Rattle.rules_files.specs.Wav.{is_wave, is_depth, whole_samples, all_finite, walked, wav_outcome, wav_note, WavLeft, wav_left, wav_refused, wav_taken, data_read}
use Rattle.rules_files.specs.Wav.{walk_read, read_wav}
use Rattle.rules_files.specs.declared.wav.WavData.{WavData}
use Rattle.rules_files.specs.declared.wav.Take.{Take}
use Rattle.rules_files.specs.declared.wav.WavRefusal.{WavRefusal}
use Rattle.rules_files.specs.declared.wav.WavRefusal.TheVariants as why

-- what a refusal leaves
abbrev Leaves : (samples : List Float) (x : WavLeft) → Type 0
Leaves samples x = (number beside : ℕ) → x.outcome ≡ refused number beside → (beside ≡ 0) × (x.note ≡ []) × (x.samples ≡ samples)

leaves : (samples : List Float) (k : ℕ) → Leaves samples (wav_refused k samples)
leaves samples k number beside e = let z : 0 ≡ beside = cc in (sym z, refl, refl)

takes : (wav : List ℕ) (d : WavData) (samples : List Float) → Leaves samples (wav_taken wav d samples)
unfolding wav_taken
takes wav d samples number beside e = let z : ◌≡◌ {A = ℕ} 0 1 = cc in absurd (omega arith)

data_leaves : (wav : List ℕ) (d : WavData) (samples : List Float) → Leaves samples (data_read wav d samples)
unfolding data_read
data_leaves wav d samples =
    cond_both (Leaves samples) (eqb d.size 0) (λ _. leaves samples 23)
    (λ _. cond_both (Leaves samples) (not (is_depth d.format.depth)) (λ _. leaves samples 24)
    (λ _. cond_both (Leaves samples) (ltb 16777216 (whole_samples wav d)) (λ _. leaves samples 30)
    (λ _. cond_both (Leaves samples) (ltb (length samples) (whole_samples wav d)) (λ _. leaves samples 2)
    (λ _. cond_both (Leaves samples) (not (all_finite wav d.format.depth d.body (whole_samples wav d))) (λ _. leaves samples 25)
    (λ _. takes wav d samples)))))

walk-leaves : (wav : List ℕ) (w : Option WavData) (samples : List Float) → Leaves samples (walk_read wav w samples)
unfolding walk_read
walk-leaves wav (Some d) samples = data_leaves wav d samples
walk-leaves wav None samples = leaves samples 23

-- Every refusal has 0 beside it and leaves the samples; it has no note.
pub wav_refused_lem : (wav : List ℕ) (samples : List Float) (number beside : ℕ) → (read_wav wav samples).outcome ≡ refused number beside
    → (beside ≡ 0) × ((read_wav wav samples).note ≡ []) × ((read_wav wav samples).samples ≡ samples)
unfolding read_wav
wav_refused_lem wav samples = cond_both (Leaves samples) (not (is_wave wav)) (λ _. leaves samples 22) (λ _. walk-leaves wav (walked wav) samples)

-- ---- an answer is known by its number and its note

answer_of : Outcome → List Float → Result Take WavRefusal
answer_of (delivered ns) xs =
    Ok (record {
      channels = get_or ns 0 0;
      rate = get_or ns 1 0;
      depth = get_or ns 2 0;
      count = get_or ns 3 0;
      note = record { peak = get_or xs 0 nan; mean = get_or xs 1 nan };
    })
answer_of (refused n k) xs = Err (get_or (why.ShortBuffer ∷ []) (n - 2)
    (get_or (why.NotWave ∷ why.NoData ∷ why.BadDepth ∷ why.NotFinite ∷ []) (n - 22) why.TooMany))

answer-said : (a : Result Take WavRefusal) → answer_of (wav_outcome a) (wav_note a) ≡ a
unfolding wav_outcome wav_note answer_of
answer-said (Ok t) = refl
answer-said (Err why.NotWave) = refl
answer-said (Err why.NoData) = refl
answer-said (Err why.BadDepth) = refl
answer-said (Err why.TooMany) = refl
answer-said (Err why.ShortBuffer) = refl
answer-said (Err why.NotFinite) = refl

-- Two answers, with what they leave, that the contract allows are the same.
pub wav_once : (wav : List ℕ) (before : List Float) (a b : Result Take WavRefusal) (xs ys : List Float)
    → wav_left a xs ≡ read_wav wav before → wav_left b ys ≡ read_wav wav before → (a ≡ b) × (xs ≡ ys)
wav_once wav before a b xs ys p q =
    let z : wav_left a xs ≡ wav_left b ys = p ∙ sym q in (
      sym (answer-said a) ∙ ap₂ answer_of (ap (λ (x : WavLeft). x.outcome) z) (ap (λ (x : WavLeft). x.note) z)
          ∙ answer-said b,
      ap (λ (x : WavLeft). x.samples) z,
    )
