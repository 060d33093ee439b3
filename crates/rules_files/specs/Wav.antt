-- Request A13, **WAV in**: the walk over the chunks, the samples' exact values, the level note, and the whole call. Numbers stand low byte first.
use mathlib.Core.List.{List, [], ◌∷◌, foldl}
use Rattle.std.specs.Prelude.{Bool, true, false, cond, not, ◌&&◌, ◌||◌, ℕ, zero, suc, ◌+◌, ◌-◌, ◌*◌, ◌/◌, ◌%◌, ◌^◌, ◌≤◌, ◌<◌, min, eqb, leb, ltb, ℤ, pos, negsuc, neg_ℤ, length, take, drop, Float}
use Rattle.std.specs.Prelude.{Option, Some, None, Result, Ok, Err}
use Rattle.std.specs.Float.{binary32}
use Rattle.std.specs.Float.Ieee.{odd, of_bits}
use Rattle.std.specs.Float.Ieee.Scale.{finite}
use Rattle.buffers.specs.Walk.{build, every}
use Rattle.floats.specs.Single.{zero_f, max_abs, no_average, with_one, mean}
use Rattle.numbers.specs.Numbers.{of_low}
use Rattle.rules.specs.Lent.{overwrite}
use Rattle.rules.specs.Refusals.{Outcome, delivered, refused}
use Rattle.rules_files.specs.declared.wav.WavFormat.{WavFormat}
use Rattle.rules_files.specs.declared.wav.WavData.{WavData}
use Rattle.rules_files.specs.declared.wav.LevelNote.{LevelNote}
use Rattle.rules_files.specs.declared.wav.Take.{Take}
use Rattle.rules_files.specs.declared.wav.WavRefusal.{WavRefusal}
use Rattle.rules_files.specs.declared.wav.WavRefusal.TheVariants.{NotWave, NoData, BadDepth, TooMany, ShortBuffer, NotFinite}

-- ---- The walk

-- the number in so many bytes from a place on
abbrev pub low_at : (wav : List ℕ) (place width : ℕ) → ℕ
low_at wav place width = of_low (take width (drop place wav))

-- a name is its four bytes as a number: `RIFF`, `WAVE`, `fmt ` and `data`
abbrev pub riff_name : ℕ
riff_name = of_low (0x52 ∷ 0x49 ∷ 0x46 ∷ 0x46 ∷ [])

abbrev pub wave_name : ℕ
wave_name = of_low (0x57 ∷ 0x41 ∷ 0x56 ∷ 0x45 ∷ [])

abbrev pub fmt_name : ℕ
fmt_name = of_low (0x66 ∷ 0x6D ∷ 0x74 ∷ 0x20 ∷ [])

abbrev pub data_name : ℕ
data_name = of_low (0x64 ∷ 0x61 ∷ 0x74 ∷ 0x61 ∷ [])

-- 44 bytes or more, with `RIFF` at 0 and `WAVE` at 8
unfoldable pub is_wave : (wav : List ℕ) → Bool
is_wave wav = leb 44 (length wav) && (eqb (low_at wav 0 4) riff_name && eqb (low_at wav 8 4) wave_name)

-- With no fmt chunk before data the Rust's defaults hold
unfoldable pub default_format : WavFormat
default_format = record { channels = 2; rate = 44100; depth = 16 }

-- a chunk's name and size stand in its first 8 bytes, its body behind them
abbrev pub chunk_name : (wav : List ℕ) (at : ℕ) → ℕ
chunk_name wav at = low_at wav at 4

abbrev pub chunk_size : (wav : List ℕ) (at : ℕ) → ℕ
chunk_size wav at = low_at wav (at + 4) 4

-- a `fmt ` chunk of 16 bytes or more; a shorter one is skipped
unfoldable pub gives_format : (name size : ℕ) → Bool
gives_format name size = eqb name fmt_name && leb 16 size

unfoldable pub format_in : (wav : List ℕ) (body : ℕ) → WavFormat
format_in wav body = record { channels = low_at wav (body + 2) 2; rate = low_at wav (body + 4) 4; depth = low_at wav (body + 14) 2 }

-- the format after a chunk
unfoldable pub format_after : (wav : List ℕ) (name size body : ℕ) (f : WavFormat) → WavFormat
format_after wav name size body f = cond (gives_format name size) (format_in wav body) f

-- where the next chunk stands: The walk skips odd bytes
abbrev pub next_chunk : (wav : List ℕ) (at : ℕ) → ℕ
next_chunk wav at = at + 8 + chunk_size wav at + chunk_size wav at % 2

-- from at on, with the format so far. Under 8 bytes end the walk; it stops at data, whatever its size; another chunk whose size runs past the file
-- ends it. A turn passes 8 bytes or more, so as many turns as bytes are enough.
unfoldable pub walk_chunks : (wav : List ℕ) (turns at : ℕ) (f : WavFormat) → Option WavData
walk_chunks wav zero at f = None
walk_chunks wav (suc n) at f =
    let further = walk_chunks wav n (next_chunk wav at) (format_after wav (chunk_name wav at) (chunk_size wav at) (at + 8) f) in
    cond (ltb (length wav) (at + 8)) None
    (cond (eqb (chunk_name wav at) data_name) (Some (record { format = f; body = at + 8; size = chunk_size wav at }))
    (cond (ltb (length wav - (at + 8)) (chunk_size wav at)) None further))

-- from the first chunk on
abbrev pub walked : (wav : List ℕ) → Option WavData
walked wav = walk_chunks wav (length wav) 12 default_format

-- ---- The samples

-- 16, 24 and 32 bits, where 32 means float
unfoldable pub is_depth : (depth : ℕ) → Bool
is_depth depth = eqb depth 16 || (eqb depth 24 || eqb depth 32)

abbrev pub sample_width : (depth : ℕ) → ℕ
sample_width depth = depth / 8

-- whole samples in the file; samples past the end are dropped
unfoldable pub whole_samples : (wav : List ℕ) (d : WavData) → ℕ
whole_samples wav d = min d.size (length wav - d.body) / sample_width d.format.depth

-- z / 2 ^ k, exactly: the one way to write that value, with no rounding
unfoldable pub over_power : (z : ℤ) (k : ℕ) → Float
over_power (pos n) k = odd 24 false n 0 k
over_power (negsuc n) k = odd 24 true (suc n) 0 k

-- the integer that a pattern stands for: from half of the patterns on it is negative
unfoldable pub signed_sample : (half pattern : ℕ) → ℤ
signed_sample half pattern = cond (ltb pattern half) (pos pattern) (neg_ℤ (pos (half + half - pattern)))

-- A sample's value is exact: the integer divided by 32,768 or 8,388,608, or the stored float's bits
unfoldable pub sample_of : (depth pattern : ℕ) → Float
sample_of depth pattern = cond (eqb depth 32) (of_bits binary32 pattern) (over_power (signed_sample (2 ^ (depth - 1)) pattern) (depth - 1))

-- sample k of a body
unfoldable pub sample_at : (wav : List ℕ) (depth body k : ℕ) → Float
sample_at wav depth body k = sample_of depth (low_at wav (body + k * sample_width depth) (sample_width depth))

-- the first n are all finite
unfoldable pub all_finite : (wav : List ℕ) (depth body n : ℕ) → Bool
all_finite wav depth body n = every (λ k. finite (sample_at wav depth body k)) n

abbrev pub samples_of : (wav : List ℕ) (d : WavData) → List Float
samples_of wav d = build (sample_at wav d.format.depth d.body) (whole_samples wav d)

-- ---- The level note

-- the largest magnitude from 0.0 on; the magnitudes summed in order from 0.0 on, over their count; both 0.0 of no sample
unfoldable pub note_of : (samples : List Float) → LevelNote
note_of samples = record { peak = foldl max_abs zero_f samples; mean = mean (foldl with_one no_average samples) }

-- ---- The whole call

-- 22, 23, 24, 30, 2, 25 in this order
unfoldable pub wav_outcome : (answer : Result Take WavRefusal) → Outcome
wav_outcome (Ok t) = delivered (t.channels ∷ t.rate ∷ t.depth ∷ t.count ∷ [])
wav_outcome (Err NotWave) = refused 22 0
wav_outcome (Err NoData) = refused 23 0
wav_outcome (Err BadDepth) = refused 24 0
wav_outcome (Err TooMany) = refused 30 0
wav_outcome (Err ShortBuffer) = refused 2 0
wav_outcome (Err NotFinite) = refused 25 0

-- the note of a take, none beside a refusal
unfoldable pub wav_note : (answer : Result Take WavRefusal) → List Float
wav_note (Ok t) = t.note.peak ∷ t.note.mean ∷ []
wav_note (Err e) = []

pub record WavLeft : Type 0 where
  pub outcome : Outcome
  pub note : List Float
  pub samples : List Float

abbrev pub wav_left : (answer : Result Take WavRefusal) (samples : List Float) → WavLeft
wav_left answer samples = record { outcome = wav_outcome answer; note = wav_note answer; samples = samples }

-- a refusal changes nothing, and 0 stands beside it
abbrev pub wav_refused : (number : ℕ) (samples : List Float) → WavLeft
wav_refused number samples = record { outcome = refused number 0; note = []; samples = samples }

unfoldable pub wav_taken : (wav : List ℕ) (d : WavData) (samples : List Float) → WavLeft
wav_taken wav d samples = record {
  outcome = delivered (d.format.channels ∷ d.format.rate ∷ d.format.depth ∷ whole_samples wav d ∷ []);
  note = (note_of (samples_of wav d)).peak ∷ (note_of (samples_of wav d)).mean ∷ [];
  samples = overwrite (samples_of wav d) samples;
}

-- refusals 23 to 25 of a data chunk that was found
unfoldable pub data_read : (wav : List ℕ) (d : WavData) (samples : List Float) → WavLeft
data_read wav d samples =
    cond (eqb d.size 0) (wav_refused 23 samples)
    (cond (not (is_depth d.format.depth)) (wav_refused 24 samples)
    (cond (ltb 16777216 (whole_samples wav d)) (wav_refused 30 samples)
    (cond (ltb (length samples) (whole_samples wav d)) (wav_refused 2 samples)
    (cond (not (all_finite wav d.format.depth d.body (whole_samples wav d))) (wav_refused 25 samples)
    (wav_taken wav d samples)))))

unfoldable pub walk_read : (wav : List ℕ) (end : Option WavData) (samples : List Float) → WavLeft
walk_read wav (Some d) samples = data_read wav d samples
walk_read wav None samples = wav_refused 23 samples

unfoldable pub read_wav : (wav : List ℕ) (samples : List Float) → WavLeft
read_wav wav samples = cond (not (is_wave wav)) (wav_refused 22 samples) (walk_read wav (walked wav) samples)
