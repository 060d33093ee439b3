-- What each place where the code leaves says of the definition of the call. Assumes nothing.
use mathlib.Core.Path.{◌≡◌, refl, sym, ◌∙◌}
use mathlib.Core.List.{List, ◌++◌}
use mathlib.Core.Bool.{true, false}
use Prim.Native.Nat.{ℕ, ◌≤◌, ◌<◌}
use borrow.Author.Tests.{lt-ltb, le-ltb, eq-eqb, ne_eqb}
use lib.ListN.{length, take, drop}
use lib.Ieee.{Float}
use lib.Seq.{length-take-le}
use Rattle.std.specs.Prelude.{Option, Some, None, Result, Ok, Err, ok_or}
use Rattle.buffers.specs.Walk.{build}
use Rattle.buffers.proofs.Build.{length-build}
use Rattle.rules_files.specs.Wav.{is_wave, is_depth, walked, whole_samples, sample_at, all_finite, note_of}
use Rattle.rules_files.specs.Wav.{wav_outcome, wav_note, wav_left, wav_taken, data_read}
use Rattle.rules_files.specs.Wav.{walk_read, read_wav}
use Rattle.rules_files.specs.WavFits.{FormatFits, DataFits, WalkFits, TakeFits}
use Rattle.wav.specs.Inside.{SamplesInside}
use Rattle.rules_files.specs.declared.wav.WavData.{WavData}
use Rattle.rules_files.specs.declared.wav.LevelNote.{LevelNote}
use Rattle.rules_files.specs.declared.wav.Take.{Take}
use Rattle.rules_files.specs.declared.wav.WavRefusal.{WavRefusal}
use Rattle.rules_files.specs.declared.wav.WavRefusal.TheVariants as why

-- ---- of a data chunk

-- the answer with what it leaves is the definition's
abbrev Reads : (wav : List ℕ) (d : WavData) (samples : List Float) (answer : Result Take WavRefusal) (after : List Float) → Type 0
Reads wav d samples a after = (wav_left a after ≡ data_read wav d samples) × TakeFits a

module _ (wav : List ℕ) (d : WavData) (samples : List Float) where
  pub data_empty : d.size ≡ 0 → Reads wav d samples (Err why.NoData) samples
  unfolding data_read wav_outcome wav_note TakeFits
  data_empty h = (rw (eq-eqb _ _ h), tt)

  module _ (some : d.size ≡ 0 → ⊥) where
    pub data_depth : is_depth d.format.depth ≡ false → Reads wav d samples (Err why.BadDepth) samples
    unfolding data_read wav_outcome wav_note TakeFits
    data_depth e = (rw (ne_eqb _ _ some, e), tt)

    module _ (deep : is_depth d.format.depth ≡ true) (n : ℕ) (whole : n ≡ whole_samples wav d) where
      pub data_many : 16777216 < n → Reads wav d samples (Err why.TooMany) samples
      unfolding data_read wav_outcome wav_note TakeFits
      data_many h = (rw (ne_eqb _ _ some, deep, ← whole, lt-ltb _ _ h), tt)

      module _ (few : n ≤ 16777216) where
        pub data_short : length samples < n → Reads wav d samples (Err why.ShortBuffer) samples
        unfolding data_read wav_outcome wav_note TakeFits
        data_short h = (rw (ne_eqb _ _ some, deep, ← whole, le-ltb _ _ few, lt-ltb _ _ h), tt)

        module _ (room : n ≤ length samples) where
          pub data_finite : all_finite wav d.format.depth d.body n ≡ false → Reads wav d samples (Err why.NotFinite) samples
          unfolding data_read wav_outcome wav_note TakeFits
          data_finite e = (rw (ne_eqb _ _ some, deep, ← whole, le-ltb _ _ few, le-ltb _ _ room, e), tt)

          pub data_taken : all_finite wav d.format.depth d.body n ≡ true → FormatFits d.format → (note : LevelNote) (ys : List Float)
              → ys ≡ build (sample_at wav d.format.depth d.body) (length (take n samples))
              → note ≡ note_of (build (sample_at wav d.format.depth d.body) (length (take n samples)))
              → Reads wav d samples
              (Ok (record { channels = d.format.channels; rate = d.format.rate; depth = d.format.depth; count = n; note = note }))
              (ys ++ drop n samples)
          unfolding data_read wav_outcome wav_note wav_taken TakeFits
          data_taken e fits note ys p q =
              let l : length (take n samples) ≡ n = length-take-le n samples room in (
                rw (p, q, l, ne_eqb _ _ some, deep, ← whole, le-ltb _ _ few, le-ltb _ _ room, e, length-build (sample_at wav d.format.depth d.body) n),
                (fits.channels, fits.rate, fits.depth, few),
              )

-- what is lent of the samples is as long as the count
pub lent_length : (n : ℕ) (samples : List Float) → n ≤ length samples → n ≡ length (take n samples)
lent_length n samples h = sym (length-take-le n samples h)

pub lent_inside : (wav : List ℕ) (depth body n : ℕ) (samples : List Float) → n ≤ length samples → SamplesInside wav depth body n → all_finite wav depth body n
    ≡ true
    → SamplesInside wav depth body (length (take n samples)) × (all_finite wav depth body (length (take n samples)) ≡ true)
lent_inside wav depth body n samples h i e = rw (length-take-le n samples h) (i, e)

-- ---- of a file

module _ (wav : List ℕ) (samples : List Float) where
  pub file_other : is_wave wav ≡ false → (wav_left (Err why.NotWave) samples ≡ read_wav wav samples) × TakeFits (Err why.NotWave)
  unfolding read_wav wav_outcome wav_note TakeFits
  file_other e = (rw e, tt)

  module _ (front : is_wave wav ≡ true) (w : Option WavData) (e : w ≡ walked wav) where
    pub file-ended : w ≡ None → (wav_left (Err why.NoData) samples ≡ read_wav wav samples) × TakeFits (Err why.NoData)
    unfolding read_wav walk_read wav_outcome wav_note TakeFits
    file-ended q = (rw (front, sym e ∙ q), tt)

    pub file_read : (d : WavData) → w ≡ Some d → (a : Result Take WavRefusal) (after : List Float) → wav_left a after ≡ data_read wav d samples
        → wav_left a after
        ≡ read_wav wav samples
    unfolding read_wav walk_read
    file_read d q a after r = r ∙ rw (front, sym e ∙ q)

pub found-fits : (wav : List ℕ) (w : Option WavData) (d : WavData) → w ≡ Some d → WalkFits wav w → DataFits wav d
unfolding WalkFits
found-fits wav w d e h = rw e at h

-- a refusal in place of no chunk
pub wanted_found : (w : Option WavData) (r : Result WavData WavRefusal) (d : WavData) → r ≡ ok_or w why.NoData → r ≡ Ok d → w ≡ Some d
wanted_found (Some x) r d e q = cc
wanted_found None r d e q = cc

pub wanted_ended : (w : Option WavData) (r : Result WavData WavRefusal) (x : WavRefusal) → r ≡ ok_or w why.NoData → r ≡ Err x
    → (w ≡ None) × (x ≡ why.NoData)
wanted_ended (Some d) r x e q = cc
wanted_ended None r x e q = (refl, cc)
