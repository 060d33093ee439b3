-- Files worked out by the definition: the request's examples and corners, floats by their patterns. Assumes nothing.
use mathlib.Core.Path.{◌≡◌, refl}
use mathlib.Core.List.{List, [], ◌∷◌, ◌++◌, map}
use mathlib.Core.Bool.{true, false}
use Prim.Native.Nat.{ℕ, ◌+◌, ◌/◌, ◌%◌, ◌≤◌, ◌<◌}
use native.Mathlib.Omega.{arith}
use borrow.Author.Tests.{lt-ltb, le-ltb, ne_eqb}
use lib.IntN.{pos, negsuc}
use lib.Ieee.{Float, binary32, lt, add, div, of_int, of_bits, to_bits}
use lib.ListN.{length, replicate}
use Rattle.std.specs.Prelude.{Ok, Err}
use Rattle.buffers.specs.Walk.{build, every}
use Rattle.floats.specs.Single.{zero_f, abs_f, max_f, mean_f, mean, no_average, with_one}
use Rattle.numbers.specs.Numbers.{of_low}
use Rattle.rules.specs.Refusals.{Outcome, delivered, refused}
use Rattle.rules_files.specs.declared.wav.LevelNote.{LevelNote}
use Rattle.rules_files.specs.declared.wav.Take.{Take}
use Rattle.rules_files.specs.declared.wav.WavData.{WavData}
use Rattle.rules_files.specs.declared.wav.WavRefusal.TheVariants as why
use Rattle.rules_files.specs.Wav.{wav_outcome, wav_note, wav_left, wav_refused}
use Rattle.rules_files.specs.Wav.{is_wave, default_format, gives_format, format_in, format_after, walk_chunks, is_depth, whole_samples, over_power, signed_sample}
use Rattle.rules_files.specs.Wav.{sample_of, sample_at, all_finite, note_of, wav_taken, data_read, walk_read, read_wav}

-- ---- files from their chunks

abbrev four : ℕ → List ℕ
four n = n % 256 ∷ n / 256 % 256 ∷ n / 65536 % 256 ∷ n / 16777216 % 256 ∷ []

abbrev file : List ℕ → List ℕ
file chunks = (82 ∷ 73 ∷ 70 ∷ 70 ∷ four (4 + length chunks)) ++ (87 ∷ 65 ∷ 86 ∷ 69 ∷ chunks)

abbrev fmt : (channels rate depth : ℕ) → List ℕ
fmt channels rate depth = (102 ∷ 109 ∷ 116 ∷ 32 ∷ four 16) ++ ((1 ∷ 0 ∷ channels ∷ 0 ∷ four rate) ++ (four 0 ++ (0 ∷ 0 ∷ depth ∷ 0 ∷ [])))

abbrev samples : (size : ℕ) → List ℕ → List ℕ
samples size body = (100 ∷ 97 ∷ 116 ∷ 97 ∷ four size) ++ body

-- a call on a file with a buffer of so many places, and what it answers and leaves there
pub record Call : Type 0 where
  pub wav : List ℕ
  pub places : ℕ

pub record Seen : Type 0 where
  pub outcome : Outcome
  pub note : List ℕ
  pub left : List ℕ

abbrev call : (wav : List ℕ) (places : ℕ) → Call
call wav places = record { wav = wav; places = places }

abbrev saw : (outcome : Outcome) (note left : List ℕ) → Seen
saw outcome note left = record { outcome = outcome; note = note; left = left }

abbrev seen : Call → Seen
seen c =
    let x = read_wav c.wav (replicate c.places zero_f) in
    saw x.outcome (map (to_bits binary32) x.note) (map (to_bits binary32) x.samples)

-- ---- the files

abbrev first_file : List ℕ
first_file =
    82 ∷ 73 ∷ 70 ∷ 70 ∷ 40 ∷ 0 ∷ 0 ∷ 0 ∷ 87 ∷ 65 ∷ 86 ∷ 69 ∷
    102 ∷ 109 ∷ 116 ∷ 32 ∷ 16 ∷ 0 ∷ 0 ∷ 0 ∷ 1 ∷ 0 ∷ 1 ∷ 0 ∷ 64 ∷ 31 ∷ 0 ∷ 0 ∷ 128 ∷ 62 ∷ 0 ∷ 0 ∷ 2 ∷ 0 ∷ 16 ∷ 0 ∷
    100 ∷ 97 ∷ 116 ∷ 97 ∷ 4 ∷ 0 ∷ 0 ∷ 0 ∷ 0 ∷ 128 ∷ 255 ∷ 127 ∷ []

abbrev pub calls : List Call
calls =
    -- two 16-bit samples
    call first_file 2 ∷
    -- a chunk of 3 bytes with its odd byte; 24 bits; the last byte is dropped; a longer buffer's rest stays
    call (file ((76 ∷ 73 ∷ 83 ∷ 84 ∷ four 3) ++ (1 ∷ 2 ∷ 3 ∷ 0 ∷ fmt 1 48000 24) ++ samples 10 (0 ∷ 0 ∷ 128 ∷ 255 ∷ 255 ∷ 127 ∷ 1 ∷ 0 ∷ 0 ∷ 255 ∷ []))) 4 ∷
    -- floats: a sum of doubles, or from the back, would give 4AAAAAAC
    call (file (fmt 1 44 32 ++ samples 12 (0 ∷ 0 ∷ 128 ∷ 75 ∷ 0 ∷ 0 ∷ 128 ∷ 63 ∷ 0 ∷ 0 ∷ 128 ∷ 63 ∷ []))) 3 ∷
    -- a sum may pass to infinity
    call (file (fmt 2 44 32 ++ samples 8 (255 ∷ 255 ∷ 127 ∷ 127 ∷ 255 ∷ 255 ∷ 127 ∷ 255 ∷ []))) 2 ∷
    -- no fmt: 44 bytes with data of 24
    call (file (samples 24 (replicate 24 0))) 12 ∷
    -- 43 bytes
    call (file (samples 23 (replicate 23 0))) 12 ∷
    -- data of size 0, with a second data chunk behind it
    call (file (samples 0 [] ++ samples 16 (replicate 16 0))) 1 ∷
    -- one byte at 16 bits
    call (file (fmt 1 44 16 ++ samples 1 (9 ∷ []))) 1 ∷
    -- size 4 with no byte left
    call (file (fmt 1 44 16 ++ samples 4 [])) 1 ∷
    -- size FFFFFFFF: samples to the file's end
    call (file (fmt 1 44 16 ++ samples 0xFFFFFFFF (0 ∷ 64 ∷ 0 ∷ 128 ∷ 7 ∷ []))) 2 ∷
    -- depth 0 with an empty buffer
    call (file (fmt 1 44 0 ++ samples 4 (0 ∷ 0 ∷ 0 ∷ 0 ∷ []))) 0 ∷
    -- an infinity with a short buffer, and with room
    call (file (fmt 1 44 32 ++ samples 4 (0 ∷ 0 ∷ 128 ∷ 127 ∷ []))) 0 ∷
    call (file (fmt 1 44 32 ++ samples 4 (0 ∷ 0 ∷ 128 ∷ 127 ∷ []))) 1 ∷
    []

pub worked : map seen calls
    ≡
    saw (delivered (1 ∷ 8000 ∷ 16 ∷ 2 ∷ [])) (0x3F800000 ∷ 0x3F7FFF00 ∷ []) (0xBF800000 ∷ 0x3F7FFE00 ∷ []) ∷
    saw (delivered (1 ∷ 48000 ∷ 24 ∷ 3 ∷ [])) (0x3F800000 ∷ 0x3F2AAAAB ∷ []) (0xBF800000 ∷ 0x3F7FFFFE ∷ 0x34000000 ∷ 0 ∷ []) ∷
    saw (delivered (1 ∷ 44 ∷ 32 ∷ 3 ∷ [])) (0x4B800000 ∷ 0x4AAAAAAB ∷ []) (0x4B800000 ∷ 0x3F800000 ∷ 0x3F800000 ∷ []) ∷
    saw (delivered (2 ∷ 44 ∷ 32 ∷ 2 ∷ [])) (0x7F7FFFFF ∷ 0x7F800000 ∷ []) (0x7F7FFFFF ∷ 0xFF7FFFFF ∷ []) ∷
    saw (delivered (2 ∷ 44100 ∷ 16 ∷ 12 ∷ [])) (0 ∷ 0 ∷ []) (replicate 12 0) ∷
    saw (refused 22 0) [] (replicate 12 0) ∷
    saw (refused 23 0) [] (0 ∷ []) ∷
    saw (delivered (1 ∷ 44 ∷ 16 ∷ 0 ∷ [])) (0 ∷ 0 ∷ []) (0 ∷ []) ∷
    saw (delivered (1 ∷ 44 ∷ 16 ∷ 0 ∷ [])) (0 ∷ 0 ∷ []) (0 ∷ []) ∷
    saw (delivered (1 ∷ 44 ∷ 16 ∷ 2 ∷ [])) (0x3F800000 ∷ 0x3F400000 ∷ []) (0x3F000000 ∷ 0xBF800000 ∷ []) ∷
    saw (refused 24 0) [] [] ∷
    saw (refused 2 0) [] [] ∷
    saw (refused 25 0) [] (0 ∷ []) ∷
    []
unfolding of_low build every abs_f max_f mean_f mean no_average with_one of_bits to_bits lt add div of_int
    is_wave default_format gives_format format_in format_after walk_chunks is_depth whole_samples over_power signed_sample sample_of sample_at all_finite
    note_of wav_taken data_read walk_read read_wav
worked = refl

-- ---- the corners of the walk and of the marks

abbrev chunk : (name size : ℕ) → List ℕ → List ℕ
chunk name size body = (name ∷ 97 ∷ 116 ∷ 97 ∷ four size) ++ body

abbrev pub corners : List Call
corners =
    -- RIFF and WAVE with one byte wrong
    call (82 ∷ 73 ∷ 70 ∷ 71 ∷ (four 40 ++ (87 ∷ 65 ∷ 86 ∷ 69 ∷ samples 24 (replicate 24 0)))) 12 ∷
    call (82 ∷ 73 ∷ 70 ∷ 70 ∷ (four 40 ++ (87 ∷ 65 ∷ 86 ∷ 70 ∷ samples 24 (replicate 24 0)))) 12 ∷
    -- a fmt chunk of 15 bytes with its odd byte is passed over: the defaults hold
    call (file ((102 ∷ 109 ∷ 116 ∷ 32 ∷ four 15) ++ ((1 ∷ 0 ∷ 1 ∷ 0 ∷ four 8000) ++ (four 0 ++ (0 ∷ 0 ∷ 24 ∷ 0 ∷ samples 2 (0 ∷ 64 ∷ [])))))) 1 ∷
    -- one of 18 is read; every byte of its fields counts
    call (file ((102 ∷ 109 ∷ 116 ∷ 32 ∷ four 18) ++ ((1 ∷ 0 ∷ 2 ∷ 1 ∷ 4 ∷ 3 ∷ 2 ∷ 1 ∷ four 0) ++ (0 ∷ 0 ∷ 24 ∷ 0 ∷ 0 ∷ 0 ∷ samples 3 (0 ∷ 0 ∷ 64 ∷ []))))) 1 ∷
    -- a chunk `INF ` of 16 bytes, whose name is a smaller number than fmt's, says nothing: the defaults hold
    call (file ((73 ∷ 78 ∷ 70 ∷ 32 ∷ four 16) ++ ((1 ∷ 0 ∷ 1 ∷ 0 ∷ four 8000) ++ (four 0 ++ (0 ∷ 0 ∷ 24 ∷ 0 ∷ samples 2 (0 ∷ 64 ∷ [])))))) 1 ∷
    -- a second fmt chunk before data takes the place of the first
    call (file (fmt 1 44 24 ++ fmt 2 48 16 ++ samples 2 (0 ∷ 64 ∷ []))) 1 ∷
    -- another chunk is passed over, longer than what stands before it
    call (file (chunk 65 24 (replicate 24 0) ++ samples 2 (0 ∷ 64 ∷ []))) 1 ∷
    -- one that ends with the file, and one that runs past it by a byte, with data inside
    call (file (chunk 65 24 (replicate 24 0))) 12 ∷
    call (file (chunk 65 25 (samples 16 (replicate 16 0)))) 12 ∷
    -- seven bytes are left: no chunk, though they begin like data with a size
    call (file (chunk 65 24 (replicate 24 0) ++ (100 ∷ 97 ∷ 116 ∷ 97 ∷ 4 ∷ 0 ∷ 0 ∷ []))) 12 ∷
    -- 8, 17 and 64 bits; 16 with a second byte that is not 0
    call (file (fmt 1 44 8 ++ samples 2 (0 ∷ 0 ∷ []))) 2 ∷
    call (file (fmt 1 44 17 ++ samples 2 (0 ∷ 0 ∷ []))) 2 ∷
    call (file (fmt 1 44 64 ++ samples 8 (replicate 8 0))) 2 ∷
    call (file ((102 ∷ 109 ∷ 116 ∷ 32 ∷ four 16) ++ ((1 ∷ 0 ∷ 1 ∷ 0 ∷ four 44) ++ (four 0 ++ (0 ∷ 0 ∷ 16 ∷ 1 ∷ samples 2 (0 ∷ 64 ∷ [])))))) 2 ∷
    -- a size whose fourth byte alone is not 0
    call (file (fmt 1 44 16 ++ samples 0x1000000 (0 ∷ 64 ∷ []))) 1 ∷
    -- a buffer one place short
    call (file (fmt 1 44 16 ++ samples 4 (0 ∷ 64 ∷ 0 ∷ 64 ∷ []))) 1 ∷
    []

pub worked_corners : map seen corners
    ≡
    saw (refused 22 0) [] (replicate 12 0) ∷
    saw (refused 22 0) [] (replicate 12 0) ∷
    saw (delivered (2 ∷ 44100 ∷ 16 ∷ 1 ∷ [])) (0x3F000000 ∷ 0x3F000000 ∷ []) (0x3F000000 ∷ []) ∷
    saw (delivered (0x102 ∷ 0x1020304 ∷ 24 ∷ 1 ∷ [])) (0x3F000000 ∷ 0x3F000000 ∷ []) (0x3F000000 ∷ []) ∷
    saw (delivered (2 ∷ 44100 ∷ 16 ∷ 1 ∷ [])) (0x3F000000 ∷ 0x3F000000 ∷ []) (0x3F000000 ∷ []) ∷
    saw (delivered (2 ∷ 48 ∷ 16 ∷ 1 ∷ [])) (0x3F000000 ∷ 0x3F000000 ∷ []) (0x3F000000 ∷ []) ∷
    saw (delivered (2 ∷ 44100 ∷ 16 ∷ 1 ∷ [])) (0x3F000000 ∷ 0x3F000000 ∷ []) (0x3F000000 ∷ []) ∷
    saw (refused 23 0) [] (replicate 12 0) ∷
    saw (refused 23 0) [] (replicate 12 0) ∷
    saw (refused 23 0) [] (replicate 12 0) ∷
    saw (refused 24 0) [] (replicate 2 0) ∷
    saw (refused 24 0) [] (replicate 2 0) ∷
    saw (refused 24 0) [] (replicate 2 0) ∷
    saw (refused 24 0) [] (replicate 2 0) ∷
    saw (delivered (1 ∷ 44 ∷ 16 ∷ 1 ∷ [])) (0x3F000000 ∷ 0x3F000000 ∷ []) (0x3F000000 ∷ []) ∷
    saw (refused 2 0) [] (0 ∷ []) ∷
    []
unfolding of_low build every abs_f max_f mean_f mean no_average with_one of_bits to_bits lt add div of_int
    is_wave default_format gives_format format_in format_after walk_chunks is_depth whole_samples over_power signed_sample sample_of sample_at all_finite
    note_of wav_taken data_read walk_read read_wav
worked_corners = refl

-- ---- refusal 30: 16,777,216 whole samples are taken, one more is not, whatever the buffer

module _ (wav : List ℕ) (d : WavData) (samples : List Float) (some : 0 < d.size) (depth : is_depth d.format.depth ≡ true) where
  pub too_many : 16777216 < whole_samples wav d → data_read wav d samples ≡ wav_refused 30 samples
  unfolding data_read
  too_many h = rw (ne_eqb d.size 0 (λ e. omega arith), depth, lt-ltb _ _ h)

  pub not_too_many : whole_samples wav d ≤ 16777216 → length samples < whole_samples wav d → data_read wav d samples ≡ wav_refused 2 samples
  unfolding data_read
  not_too_many h k = rw (ne_eqb d.size 0 (λ e. omega arith), depth, le-ltb _ _ h, lt-ltb _ _ k)

-- the integers of 16 bits: 0, 1, the largest, the smallest, -1
pub signed-row : map (signed_sample 32768) (0 ∷ 1 ∷ 32767 ∷ 32768 ∷ 65535 ∷ []) ≡ pos 0 ∷ pos 1 ∷ pos 32767 ∷ negsuc 32767 ∷ negsuc 0 ∷ []
unfolding signed_sample
signed-row = refl

-- four bytes, then 1.0 and an infinity: the first value of a body at 4 is finite, not both, nor the first at 8
abbrev endless : List ℕ
endless = 0 ∷ 0 ∷ 0 ∷ 0 ∷ 0 ∷ 0 ∷ 128 ∷ 63 ∷ 0 ∷ 0 ∷ 128 ∷ 127 ∷ []

pub finite-row : all_finite endless 32 4 1 ∷ all_finite endless 32 4 2 ∷ all_finite endless 32 8 1 ∷ all_finite endless 32 8 0 ∷ []
    ≡ true ∷ false ∷ false ∷ true ∷ []
unfolding all_finite every sample_at sample_of of_low of_bits
finite-row = refl

-- the number of each answer, and of a take its four numbers and its note, each under its own name
abbrev take : (note : LevelNote) → Take
take note = record { channels = 1; rate = 2; depth = 3; count = 4; note = note }

pub wav_numbers :
    map wav_outcome (Err why.NotWave ∷ Err why.NoData ∷ Err why.BadDepth ∷ Err why.TooMany ∷ Err why.ShortBuffer ∷ Err why.NotFinite ∷ [])
    ≡ refused 22 0 ∷ refused 23 0 ∷ refused 24 0 ∷ refused 30 0 ∷ refused 2 0 ∷ refused 25 0 ∷ []
unfolding wav_outcome
wav_numbers = refl

pub take_names : (note : LevelNote) (samples : List Float) → let x = wav_left (Ok (take note)) samples in
    (x.outcome ≡ delivered (1 ∷ 2 ∷ 3 ∷ 4 ∷ [])) × (x.note ≡ note.peak ∷ note.mean ∷ []) × (x.samples ≡ samples)
unfolding wav_outcome wav_note
take_names note samples = (refl, refl, refl)
