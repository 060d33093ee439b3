-- Request A14, **Header back in**: what is judged of a header, in whole passes, and its reader's whole call.
-- Where a number stands is said by the piece that writes it (FileHeader).
use Rattle.std.specs.Prelude.{List, [], ◌∷◌, Bool, true, cond, not, ◌&&◌, ℕ, ◌+◌, ◌-◌, ◌*◌, eqb, leb, ltb, length, get_or, take, drop}
use Rattle.std.specs.Prelude.{Option, Some, None, Result, Ok, Err}
use Rattle.buffers.specs.Walk.{every}
use Rattle.crc.specs.Sealed.{is_sealed}
use Rattle.numbers.specs.Numbers.{of_high}
use Rattle.rules.specs.Layout.{legal_layout, bands_per_group}
use Rattle.rules.specs.Refusals.{Outcome, delivered, refused}
use Rattle.rules.specs.declared.Channel.{Channel}
use Rattle.rules.specs.declared.Layout.{Layout}
use Rattle.rules.specs.declared.Mode.{Mode}
use Rattle.rules.specs.declared.Mode.TheVariants.{Rust}
use Rattle.rules_files.specs.declared.header.LoopPoints.{LoopPoints}
use Rattle.rules_files.specs.declared.header.LoopFields.{LoopFields}
use Rattle.rules_files.specs.declared.header.Stream.{Stream}
use Rattle.rules_files.specs.declared.header.FileHeader.{FileHeader}
use Rattle.rules_files.specs.declared.header.HeaderReadRefusal.{HeaderReadRefusal}
use Rattle.rules_files.specs.declared.header.HeaderReadRefusal.TheVariants as why
use Rattle.rules_files.specs.FileHeader.{header_size, body_size, encoder_delay, frame_samples, channel_config, loop_fields, Piece}
use Rattle.rules_files.specs.FileHeader.{hca_name, version_piece, size_piece, format_name, channels_piece, rate_piece, count_piece, delay_piece, padding_piece}
use Rattle.rules_files.specs.FileHeader.{compression_name, frame_size_piece, minimum_piece, maximum_piece, track_piece}
use Rattle.rules_files.specs.FileHeader.{config_piece, total_piece, base_piece, stereo_piece, per_group_piece}
use Rattle.rules_files.specs.FileHeader.{loop_name, start_frame_piece, end_frame_piece, start_delay_piece, end_padding_piece}
use Rattle.rules_files.specs.FileHeader.{tail_at, cipher_name, cipher_piece, pad_name}

-- ---- numbers and where they stand

-- the number that a header has where a piece stands
unfoldable pub number_at : (header : List ℕ) (p : Piece) → ℕ
number_at header p = of_high (take p.width (drop p.offset header))

-- is it the piece's value?
abbrev pub stands : (header : List ℕ) (p : Piece) → Bool
stands header p = eqb (number_at header p) p.value

unfoldable pub all_stand : (header : List ℕ) (ps : List Piece) → Bool
all_stand header [] = true
all_stand header (p ∷ ps) = stands header p && all_stand header ps

-- a piece's number, whatever it is
abbrev pub field_at : (header : List ℕ) (piece : (value : ℕ) → Piece) → ℕ
field_at header piece = number_at header (piece 0)

-- the byte behind a piece
abbrev pub behind : (p : Piece) → ℕ
behind p = p.offset + p.width

-- every byte from one place up to another is 0
unfoldable pub zero_bytes : (header : List ℕ) (from to : ℕ) → Bool
zero_bytes header from to = every (λ i. eqb (get_or header (from + i) 0) 0) (to - from)

-- ---- 27: names and version

-- the name `loop` stands where a loop begins
abbrev pub looped : (header : List ℕ) → Bool
looped header = stands header loop_name

-- P
abbrev pub tail_of : (header : List ℕ) → ℕ
tail_of header = tail_at (looped header)

abbrev pub name_pieces : (at : ℕ) → List Piece
name_pieces at = hca_name ∷ version_piece ∷ format_name ∷ compression_name ∷ cipher_name at ∷ pad_name at ∷ []

unfoldable pub names_right : (header : List ℕ) → Bool
names_right header = all_stand header (name_pieces (tail_of header))

-- ---- 28: fields

unfoldable pub loop_at : (header : List ℕ) → LoopFields
loop_at header = record {
  start_frame = field_at header start_frame_piece;
  end_frame = field_at header end_frame_piece;
  delay = field_at header start_delay_piece;
  padding = field_at header end_padding_piece;
}

unfoldable pub fields_of : (header : List ℕ) → FileHeader
fields_of header = record {
  channels = field_at header channels_piece;
  base = field_at header base_piece;
  stereo = field_at header stereo_piece;
  total = field_at header total_piece;
  frame_size = field_at header frame_size_piece;
  minimum = field_at header minimum_piece;
  maximum = field_at header maximum_piece;
  rate = field_at header rate_piece;
  frames = field_at header count_piece;
  padding = field_at header padding_piece;
  points = cond (looped header) (Some (loop_at header)) None;
}

-- the layout that is handed out, with the caller's kinds and mode
abbrev pub layout_with : (f : FileHeader) (kinds : List Channel) (mode : Mode) → Layout
layout_with f kinds mode = record {
  channels = f.channels;
  kinds = kinds;
  base = f.base;
  stereo = f.stereo;
  total = f.total;
  frame_size = f.frame_size;
  minimum = f.minimum;
  maximum = f.maximum;
  mode = mode;
}

-- the layout's limits, of whatever kinds; at most eight channels; the rate's limits
unfoldable pub limits_right : (f : FileHeader) → Bool
limits_right f = legal_layout (layout_with f [] Rust) && (leb f.channels 8 && (leb 1 f.rate && leb f.rate 0x7FFFFF))

-- the numbers that the writer gives by itself or from the others: header size, delay, track count, configuration, bands per group, cipher type
abbrev pub given_pieces : (f : FileHeader) (at : ℕ) → List Piece
given_pieces f at =
    size_piece ∷ delay_piece ∷ track_piece ∷ config_piece (channel_config f.channels) ∷ per_group_piece (bands_per_group (layout_with f [] Rust)) ∷ cipher_piece at ∷ []

-- a loop's start and end, moved by the delay
abbrev pub moved_start : (frame delay : ℕ) → ℕ
moved_start frame delay = frame_samples * frame + delay

abbrev pub moved_end : (end_frame padding : ℕ) → ℕ
moved_end end_frame padding = frame_samples * (end_frame + 1) - padding

-- a point that was moved, and keeps to 32 bits
abbrev pub is_moved : (sample : ℕ) → Bool
is_moved sample = leb encoder_delay sample && leb sample 0xFFFFFFFF

-- the four numbers that the writer gives for some points
unfoldable pub loop_right : (loop : Option LoopFields) → Bool
loop_right None = true
loop_right (Some f) =
    ltb f.delay frame_samples
    && (ltb f.padding frame_samples && (is_moved (moved_start f.start_frame f.delay) && is_moved (moved_end f.end_frame f.padding)))

unfoldable pub fields_right : (header : List ℕ) → Bool
fields_right header =
    limits_right (fields_of header) && (all_stand header (given_pieces (fields_of header) (tail_of header)) && loop_right (fields_of header).points)

-- ---- 29: the rest

-- between the bands per group and the next chunk, and from the last name to the check
unfoldable pub rest_zero : (header : List ℕ) → Bool
rest_zero header = zero_bytes header (behind (per_group_piece 0)) loop_name.offset && zero_bytes header (behind (pad_name (tail_of header))) body_size

-- ---- the points back

-- start and end in samples of the input; none for four numbers that the writer gives for no points
unfoldable pub start_and_end : (f : LoopFields) → LoopPoints
start_and_end f =
    record { start = moved_start f.start_frame f.delay - encoder_delay; end = moved_end f.end_frame f.padding - encoder_delay }

unfoldable pub points_back : (loop : Option LoopFields) → Option LoopPoints
points_back None = None
points_back (Some f) = cond (loop_right (Some f)) (Some (start_and_end f)) None

abbrev pub stream_back : (f : FileHeader) → Stream
stream_back f = record { rate = f.rate; frames = f.frames; padding = f.padding; points = points_back f.points }

-- ---- what the writer's input is read as

unfoldable pub loop_frames : (points : Option LoopPoints) → Option LoopFields
loop_frames None = None
loop_frames (Some p) = Some (loop_fields p.start p.end)

abbrev pub fields_for : (l : Layout) (st : Stream) → FileHeader
fields_for l st = record {
  channels = l.channels;
  base = l.base;
  stereo = l.stereo;
  total = l.total;
  frame_size = l.frame_size;
  minimum = l.minimum;
  maximum = l.maximum;
  rate = st.rate;
  frames = st.frames;
  padding = st.padding;
  points = loop_frames st.points;
}

-- ---- the call

-- of 96 bytes: 26, 27, 28, 29 in this order
unfoldable pub exact_read : (header : List ℕ) → Result FileHeader HeaderReadRefusal
exact_read header =
    cond (not (is_sealed header)) (Err why.WrongCheck)
    (cond (not (names_right header)) (Err why.WrongName)
    (cond (not (fields_right header)) (Err why.BadField)
    (cond (not (rest_zero header)) (Err why.NotZero) (Ok (fields_of header)))))

-- 2 first; what stands behind 96 bytes is not looked at
unfoldable pub read_header : (header : List ℕ) → Result FileHeader HeaderReadRefusal
read_header header = cond (ltb (length header) header_size) (Err why.ShortBuffer) (exact_read (take header_size header))

-- ---- an answer as numbers

-- loop or none, frame, delay, end frame, padding
unfoldable pub loop_numbers : (loop : Option LoopFields) → List ℕ
loop_numbers None = 0 ∷ 0 ∷ 0 ∷ 0 ∷ 0 ∷ []
loop_numbers (Some f) = 1 ∷ f.start_frame ∷ f.delay ∷ f.end_frame ∷ f.padding ∷ []

abbrev pub stream_numbers : (f : FileHeader) → List ℕ
stream_numbers f = f.rate ∷ f.frames ∷ f.padding ∷ loop_numbers f.points

unfoldable pub header_read_outcome : (answer : Result FileHeader HeaderReadRefusal) → Outcome
header_read_outcome (Ok f) = delivered (stream_numbers f)
header_read_outcome (Err why.ShortBuffer) = refused 2 0
header_read_outcome (Err why.WrongCheck) = refused 26 0
header_read_outcome (Err why.WrongName) = refused 27 0
header_read_outcome (Err why.BadField) = refused 28 0
header_read_outcome (Err why.NotZero) = refused 29 0

-- the layout's seven numbers, none beside a refusal
abbrev pub layout_numbers : (f : FileHeader) → List ℕ
layout_numbers f = f.channels ∷ f.base ∷ f.stereo ∷ f.total ∷ f.frame_size ∷ f.minimum ∷ f.maximum ∷ []

unfoldable pub header_layout : (answer : Result FileHeader HeaderReadRefusal) → List ℕ
header_layout (Ok f) = layout_numbers f
header_layout (Err e) = []
