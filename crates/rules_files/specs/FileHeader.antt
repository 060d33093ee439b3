-- Request A1, **File header**: the 96 bytes in front of the frames, by byte offset; and its writer's whole call.
use Rattle.std.specs.Prelude.{List, [], ◌∷◌, ◌++◌, Bool, true, false, cond, not, ◌&&◌, ℕ, ◌+◌, ◌-◌, ◌/◌, ◌%◌, ◌≤◌, eqb, leb, ltb, length, get_or}
use Rattle.std.specs.Prelude.{Option, Some, None, Result, Ok, Err}
use Rattle.buffers.specs.Walk.{build}
use Rattle.crc.specs.Sealed.{sealed}
use Rattle.numbers.specs.Numbers.{high_first, replaced}
use Rattle.rules.specs.Layout.{legal_layout, frame_size, bands_per_group}
use Rattle.rules.specs.Lent.{overwrite}
use Rattle.rules.specs.Refusals.{Outcome, delivered, refused}
use Rattle.rules.specs.declared.Layout.{Layout}
use Rattle.rules_files.specs.declared.header.LoopPoints.{LoopPoints}
use Rattle.rules_files.specs.declared.header.LoopFields.{LoopFields}
use Rattle.rules_files.specs.declared.header.Stream.{Stream}
use Rattle.rules_files.specs.declared.header.HeaderRefusal.{HeaderRefusal}
use Rattle.rules_files.specs.declared.header.HeaderRefusal.TheVariants.{BadLayout, ShortBuffer, BadHeader}

abbrev pub header_size : ℕ
header_size = 96

-- what the check stands behind
abbrev pub body_size : ℕ
body_size = 94

-- the encoder's delay, and the samples of a frame
abbrev pub encoder_delay : ℕ
encoder_delay = 128

abbrev pub frame_samples : ℕ
frame_samples = 1024

-- DEFAULT_CHANNEL_MAPPING, by the number of channels
unfoldable pub channel_mapping : List ℕ
channel_mapping = 0 ∷ 1 ∷ 0 ∷ 4 ∷ 0 ∷ 1 ∷ 3 ∷ 7 ∷ 3 ∷ []

-- VALID_CHANNEL_MAPPINGS: a row for each number of channels from 1, 1 where that configuration is valid
unfoldable pub valid_mappings : List (List ℕ)
valid_mappings =
    (0 ∷ 1 ∷ 0 ∷ 0 ∷ 0 ∷ 0 ∷ 0 ∷ 0 ∷ [])
    ∷ (1 ∷ 0 ∷ 0 ∷ 0 ∷ 0 ∷ 0 ∷ 0 ∷ 0 ∷ [])
    ∷ (0 ∷ 1 ∷ 1 ∷ 0 ∷ 1 ∷ 0 ∷ 0 ∷ 0 ∷ [])
    ∷ (1 ∷ 0 ∷ 0 ∷ 1 ∷ 0 ∷ 1 ∷ 0 ∷ 0 ∷ [])
    ∷ (0 ∷ 1 ∷ 1 ∷ 0 ∷ 0 ∷ 0 ∷ 0 ∷ 1 ∷ [])
    ∷ (0 ∷ 0 ∷ 0 ∷ 1 ∷ 0 ∷ 0 ∷ 0 ∷ 0 ∷ [])
    ∷ (0 ∷ 0 ∷ 0 ∷ 0 ∷ 0 ∷ 0 ∷ 0 ∷ 1 ∷ [])
    ∷ (0 ∷ 0 ∷ 0 ∷ 1 ∷ 0 ∷ 0 ∷ 0 ∷ 0 ∷ [])
    ∷ []

abbrev pub channel_config : (channels : ℕ) → ℕ
channel_config channels = get_or channel_mapping channels 0

-- Loop points are moved by the delay; an end on a frame's edge belongs to the frame before, with padding 0
abbrev pub on_edge : (sample : ℕ) → Bool
on_edge sample = eqb (sample % frame_samples) 0

unfoldable pub loop_fields : (start end : ℕ) → LoopFields
loop_fields start end =
    let s = start + encoder_delay in
    let e = end + encoder_delay in
    record {
      start_frame = s / frame_samples;
      end_frame = cond (on_edge e) (e / frame_samples - 1) (e / frame_samples);
      delay = s % frame_samples;
      padding = cond (on_edge e) 0 (frame_samples - e % frame_samples);
    }

-- ---- the bytes

-- a number of `width` bytes, the high byte first, from byte `offset` on
pub record Piece : Type 0 where
  pub offset : ℕ
  pub width : ℕ
  pub value : ℕ

abbrev pub piece : (offset width value : ℕ) → Piece
piece offset width value = record { offset = offset; width = width; value = value }

-- each piece by its name, so that the reader has its place from here too

abbrev pub hca_name : Piece
hca_name = piece 0 4 0x48434100

abbrev pub version_piece : Piece
version_piece = piece 4 2 0x0200

abbrev pub size_piece : Piece
size_piece = piece 6 2 header_size

abbrev pub format_name : Piece
format_name = piece 8 4 0x666D7400

abbrev pub channels_piece : (channels : ℕ) → Piece
channels_piece channels = piece 12 1 channels

abbrev pub rate_piece : (rate : ℕ) → Piece
rate_piece rate = piece 13 3 rate

abbrev pub count_piece : (frames : ℕ) → Piece
count_piece frames = piece 16 4 frames

abbrev pub delay_piece : Piece
delay_piece = piece 20 2 encoder_delay

abbrev pub padding_piece : (padding : ℕ) → Piece
padding_piece padding = piece 22 2 padding

abbrev pub compression_name : Piece
compression_name = piece 24 4 0x636F6D70

abbrev pub frame_size_piece : (size : ℕ) → Piece
frame_size_piece size = piece 28 2 size

abbrev pub minimum_piece : (minimum : ℕ) → Piece
minimum_piece minimum = piece 30 1 minimum

abbrev pub maximum_piece : (maximum : ℕ) → Piece
maximum_piece maximum = piece 31 1 maximum

abbrev pub track_piece : Piece
track_piece = piece 32 1 1

abbrev pub config_piece : (config : ℕ) → Piece
config_piece config = piece 33 1 config

abbrev pub total_piece : (total : ℕ) → Piece
total_piece total = piece 34 1 total

abbrev pub base_piece : (base : ℕ) → Piece
base_piece base = piece 35 1 base

abbrev pub stereo_piece : (stereo : ℕ) → Piece
stereo_piece stereo = piece 36 1 stereo

abbrev pub per_group_piece : (per_group : ℕ) → Piece
per_group_piece per_group = piece 37 1 per_group

abbrev pub loop_name : Piece
loop_name = piece 40 4 0x6C6F6F70

abbrev pub start_frame_piece : (frame : ℕ) → Piece
start_frame_piece frame = piece 44 4 frame

abbrev pub end_frame_piece : (frame : ℕ) → Piece
end_frame_piece frame = piece 48 4 frame

abbrev pub start_delay_piece : (delay : ℕ) → Piece
start_delay_piece delay = piece 52 2 delay

abbrev pub end_padding_piece : (padding : ℕ) → Piece
end_padding_piece padding = piece 54 2 padding

-- P: where the next chunk stands, with a loop and without
abbrev pub tail_at : (looped : Bool) → ℕ
tail_at looped = cond looped 56 40

abbrev pub cipher_name : (at : ℕ) → Piece
cipher_name at = piece at 4 0x63697068

abbrev pub cipher_piece : (at : ℕ) → Piece
cipher_piece at = piece (at + 4) 2 0

abbrev pub pad_name : (at : ℕ) → Piece
pad_name at = piece (at + 6) 4 0x70616400

-- HCA\0, version, header size
abbrev pub magic_pieces : List Piece
magic_pieces = hca_name ∷ version_piece ∷ size_piece ∷ []

-- fmt\0, channels, sample rate; frame count, delay, padding
abbrev pub format_pieces : (channels : ℕ) (st : Stream) → List Piece
format_pieces channels st =
    format_name ∷ channels_piece channels ∷ rate_piece st.rate ∷ count_piece st.frames ∷ delay_piece ∷ padding_piece st.padding ∷ []

-- comp, frame size, minimum and maximum resolution, track count
abbrev pub frame_pieces : (l : Layout) → List Piece
frame_pieces l = compression_name ∷ frame_size_piece (frame_size l) ∷ minimum_piece l.minimum ∷ maximum_piece l.maximum ∷ track_piece ∷ []

-- channel configuration; total, base, stereo, bands per group
abbrev pub band_pieces : (l : Layout) → List Piece
band_pieces l =
    config_piece (channel_config l.channels) ∷ total_piece l.total ∷ base_piece l.base ∷ stereo_piece l.stereo ∷ per_group_piece (bands_per_group l) ∷ []

-- only with a loop: loop, start frame, end frame, start delay, end padding
abbrev pub field_pieces : (f : LoopFields) → List Piece
field_pieces f =
    loop_name ∷ start_frame_piece f.start_frame ∷ end_frame_piece f.end_frame ∷ start_delay_piece f.delay ∷ end_padding_piece f.padding ∷ []

unfoldable pub loop_pieces : (points : Option LoopPoints) → List Piece
loop_pieces None = []
loop_pieces (Some p) = field_pieces (loop_fields p.start p.end)

unfoldable pub after_loop : (points : Option LoopPoints) → ℕ
after_loop None = tail_at false
after_loop (Some p) = tail_at true

-- ciph, type 0, pad\0
abbrev pub tail_pieces : (at : ℕ) → List Piece
tail_pieces at = cipher_name at ∷ cipher_piece at ∷ pad_name at ∷ []

abbrev pub pieces_with : (l : Layout) (st : Stream) (points : Option LoopPoints) → List Piece
pieces_with l st points =
    magic_pieces ++ (format_pieces l.channels st ++ (frame_pieces l ++ (band_pieces l ++ (loop_pieces points ++ tail_pieces (after_loop points)))))

-- the whole table
unfoldable pub pieces : (l : Layout) (st : Stream) → List Piece
pieces l st = pieces_with l st st.points

abbrev pub covers : (p : Piece) (i : ℕ) → Bool
covers p i = leb p.offset i && ltb i (p.offset + p.width)

abbrev pub piece_bytes : (p : Piece) → List ℕ
piece_bytes p = high_first p.width p.value

-- byte i where these pieces stand: of the piece that covers it, else `blank`
unfoldable pub byte_of : (ps : List Piece) (i blank : ℕ) → ℕ
byte_of [] i blank = blank
byte_of (p ∷ ps) i blank = byte_of ps i (cond (covers p i) (get_or (piece_bytes p) (i - p.offset) 0) blank)

abbrev pub header_byte : (l : Layout) (st : Stream) (i : ℕ) → ℕ
header_byte l st i = byte_of (pieces l st) i 0

-- 94 bytes, and the check of these behind them
unfoldable pub header_of : (l : Layout) (st : Stream) → List ℕ
header_of l st = sealed (build (header_byte l st) body_size)

-- the pieces put over a list, one after the other: what each part of the writer does
unfoldable pub stamped : (ps : List Piece) (s : List ℕ) → List ℕ
stamped [] s = s
stamped (p ∷ ps) s = stamped ps (replaced s p.offset (piece_bytes p))

-- ---- the call

-- every number fits its field, and a loop point its 32 bits after the shift: else refusal 16
unfoldable pub fits_points : (points : Option LoopPoints) → Bool
fits_points None = true
fits_points (Some p) = leb (p.start + encoder_delay) 0xFFFFFFFF && leb (p.end + encoder_delay) 0xFFFFFFFF

unfoldable pub fits_header : (l : Layout) (st : Stream) → Bool
fits_header l st =
    leb l.channels 8 && (leb 1 st.rate && (leb st.rate 0x7FFFFF && (leb st.frames 0xFFFFFFFF
    && (leb st.padding 0xFFFF && fits_points st.points))))

-- the same as facts
abbrev pub PointFits : (p : LoopPoints) → Type 0
PointFits p = (p.start + encoder_delay ≤ 0xFFFFFFFF) × (p.end + encoder_delay ≤ 0xFFFFFFFF)

abbrev pub PointsFit : (points : Option LoopPoints) → Type 0
PointsFit None = Unit {0}
PointsFit (Some p) = PointFits p

pub record HeaderFits (l : Layout) (st : Stream) : Type 0 where
  pub channels : l.channels ≤ 8
  pub rated : 1 ≤ st.rate
  pub rate : st.rate ≤ 0x7FFFFF
  pub frames : st.frames ≤ 0xFFFFFFFF
  pub padding : st.padding ≤ 0xFFFF
  pub points : PointsFit st.points

-- 1, 2, 16 in this order
unfoldable pub header_outcome : (answer : Result (Unit {0}) HeaderRefusal) → Outcome
header_outcome (Ok x) = delivered []
header_outcome (Err BadLayout) = refused 1 0
header_outcome (Err ShortBuffer) = refused 2 0
header_outcome (Err BadHeader) = refused 16 0

pub record HeaderLeft : Type 0 where
  pub outcome : Outcome
  pub header : List ℕ

abbrev pub header_left : (answer : Result (Unit {0}) HeaderRefusal) (header : List ℕ) → HeaderLeft
header_left answer header = record { outcome = header_outcome answer; header = header }

-- what the call answers and leaves, refused ones too: a refusal leaves the buffer, and a longer buffer's rest stays
unfoldable pub write_header : (l : Layout) (st : Stream) (header : List ℕ) → HeaderLeft
write_header l st header =
    cond (not (legal_layout l)) (record { outcome = refused 1 0; header = header })
    (cond (ltb (length header) header_size) (record { outcome = refused 2 0; header = header })
    (cond (not (fits_header l st)) (record { outcome = refused 16 0; header = header })
    (record { outcome = delivered []; header = overwrite (header_of l st) header })))
