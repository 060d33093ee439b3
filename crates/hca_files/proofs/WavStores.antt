-- What is told of an answer, by its variant and by the place where the call left. Assumes nothing.
use mathlib.Core.Path.{◌≡◌, refl, sym, ap, ◌∙◌, subst}
use mathlib.Core.List.{List, [], ◌∷◌}
use Prim.Native.Nat.{ℕ, ◌≤◌, ◌<◌}
use native.Mathlib.Omega.{arith}
use borrow.Author.Tests.{lt-ltb, le-ltb}
use lib.Ieee.{Float}
use lib.ListN.{length, set}
use Rattle.std.specs.Prelude.{Result, Ok, Err}
use Rattle.rules.specs.Lent.{overwrite}
use Rattle.rules.specs.Refusals.{refused}
use Rattle.rules_files.specs.Wav.{wav_outcome, wav_note, WavLeft, wav_left, read_wav}
use Rattle.rules_files.specs.WavFits.{TakeFits}
use Rattle.rules_files.specs.declared.wav.Take.{Take}
use Rattle.rules_files.specs.declared.wav.WavRefusal.{WavRefusal}
use Rattle.rules_files.specs.declared.wav.WavRefusal.TheVariants as why
use Rattle.refusals.specs.Refusals.{refusal_of}
use Rattle.refusals.specs.declared.Refusal.{Refusal}
use Rattle.hca_answers.specs.Outcomes.{result_of, AnswerStored}
use Rattle.hca_answers.proofs.Places.{stored_short}
use Rattle.hca_files.specs.ReadWav.{c_wav_left, c_wav_from, c_read_wav}

-- ---- the note's two places

pub over-two : (xs : List Float) (a b : Float) → 2 ≤ length xs → set (set xs 0 a) 1 b ≡ overwrite (a ∷ b ∷ []) xs
over-two [] a b h = absurd (omega arith)
over-two (x ∷ []) a b h = absurd (omega arith)
over-two (x ∷ y ∷ xs) a b h = refl

-- ---- a refusal

-- its number is small, and 0 stands beside it
record Refuses (e : WavRefusal) : Type 0 where
  pub number : ℕ
  pub small : number ≤ 30
  pub outcome : wav_outcome (Err e) ≡ refused number 0

wav_refuses : (e : WavRefusal) → Refuses e
unfolding wav_outcome
wav_refuses why.NotWave = record { number = 22; small = omega arith; outcome = refl }
wav_refuses why.NoData = record { number = 23; small = omega arith; outcome = refl }
wav_refuses why.BadDepth = record { number = 24; small = omega arith; outcome = refl }
wav_refuses why.TooMany = record { number = 30; small = omega arith; outcome = refl }
wav_refuses why.ShortBuffer = record { number = 2; small = omega arith; outcome = refl }
wav_refuses why.NotFinite = record { number = 25; small = omega arith; outcome = refl }

module _ (e : WavRefusal) (r : Refusal) (is : r ≡ refusal_of (wav_outcome (Err e))) where
  same : r ≡ record { number = (wav_refuses e).number; beside = 0 }
  unfolding refusal_of
  same = is ∙ ap refusal_of (wav_refuses e).outcome

  pub refusal-fits : (r.number < 4294967296) × (r.beside < 4294967296)
  refusal-fits = let w = wav_refuses e in rw same (omega (arith, w.small), omega arith)

  pub refusal-stored : (result : ℕ) (before after : List ℕ) (note : List Float) → AnswerStored (refused r.number r.beside) result before after
      → (note ≡ overwrite (wav_note (Err e)) note) × AnswerStored (wav_outcome (Err e)) result before after
  unfolding wav_note
  refusal-stored result before after note t =
      let w = wav_refuses e in
      (refl, rw w.outcome (subst (λ (x : Refusal). AnswerStored (refused x.number x.beside) result before after) same t))

-- ---- by its variant

pub take-fits : (a : Result Take WavRefusal) (t : Take) → a ≡ Ok t → TakeFits a
    → (t.channels < 4294967296) × (t.rate < 4294967296) × (t.depth < 4294967296) × (t.count < 4294967296)
unfolding TakeFits
take-fits a t e h = let k : TakeFits (Ok t) = subst TakeFits e h in (omega (arith, k.0), k.1, omega (arith, k.2), omega (arith, k.3))

pub wav_stored : (a b : Result Take WavRefusal) → a ≡ b → (result : ℕ) (before after : List ℕ) (note noted : List Float)
    → (noted ≡ overwrite (wav_note b) note) × AnswerStored (wav_outcome b) result before after
    → (noted ≡ overwrite (wav_note a) note) × AnswerStored (wav_outcome a) result before after
wav_stored a b e result before after note noted h =
    subst (λ x. (noted ≡ overwrite (wav_note x) note) × AnswerStored (wav_outcome x) result before after) (sym e) h

-- ---- the whole call

module _ (wav : List ℕ) (samples note : List Float) (answer : List ℕ) where
  pub note-short : (r : ℕ) (after : List ℕ) → length note < 2 → AnswerStored (refused 2 0) r answer after → c_wav_left r samples note after
      ≡ c_read_wav wav samples note answer
  unfolding c_read_wav c_wav_from
  note-short r after h t = rw (lt-ltb _ _ h, t.answered, t.shown)

  module _ (h : 2 ≤ length note) where
    pub answer-short : length answer < 4 → c_wav_left 2 samples note answer ≡ c_read_wav wav samples note answer
    unfolding c_read_wav c_wav_from result_of
    answer-short k = rw (le-ltb _ _ h, lt-ltb _ _ k) (ap (c_wav_left 2 samples note) (stored_short (refused 2 0) answer k))

    pub take_done : 4 ≤ length answer → (a : Result Take WavRefusal) (after noted : List Float) (r : ℕ) (stored : List ℕ)
        → wav_left a after ≡ read_wav wav samples
        → noted ≡ overwrite (wav_note a) note → AnswerStored (wav_outcome a) r answer stored → c_wav_left r after noted stored ≡ c_read_wav wav samples note answer
    unfolding c_read_wav c_wav_from
    take_done k a after noted r stored e p t =
        rw (p, t.answered, t.shown, le-ltb _ _ h, le-ltb _ _ k) (ap (λ (x : WavLeft). c_wav_from x note answer) e)
