-- Request A14: the issue's header and its nine changes, worked out. Assumes nothing.
use mathlib.Core.Path.{◌≡◌, refl}
use mathlib.Core.List.{List, [], ◌∷◌, ◌++◌, map}
use Prim.Native.Nat.{ℕ, ◌+◌, ◌/◌, ◌%◌}
use lib.ListN.{length, take, drop, replicate, set}
use Rattle.std.specs.Prelude.{Option, Some, None, Ok, Err}
use Rattle.bits.specs.Bits.{bits, value, bits_of}
use Rattle.buffers.specs.Walk.{build, every}
use Rattle.crc.specs.Check.{checksum}
use Rattle.crc.specs.Sealed.{is_sealed}
use Rattle.numbers.specs.Numbers.{high_first, of_high}
use Rattle.rules.specs.Layout.{legal_layout, bands_per_group, group_count, ceil_div}
use Rattle.rules.specs.Refusals.{Outcome, delivered, refused}
use Rattle.rules.specs.declared.ChannelType.TheVariants.{Discrete}
use Rattle.rules.specs.declared.Mode.TheVariants.{Rust}
use Rattle.rules.specs.declared.Layout.{Layout}
use Rattle.rules_files.specs.declared.header.LoopFields.{LoopFields}
use Rattle.rules_files.specs.declared.header.Stream.{Stream}
use Rattle.rules_files.specs.declared.header.FileHeader.{FileHeader}
use Rattle.rules_files.specs.declared.header.HeaderReadRefusal.TheVariants as why
use Rattle.rules_files.specs.FileHeader.{channel_mapping, loop_fields, loop_pieces, after_loop, pieces, byte_of, header_of}
use Rattle.rules_files.specs.HeaderReading.{number_at, all_stand, zero_bytes, names_right, loop_at, fields_of, limits_right, loop_right, fields_right, rest_zero}
use Rattle.rules_files.specs.HeaderReading.{start_and_end, points_back, stream_back, exact_read, read_header, header_read_outcome, loop_numbers, header_layout}

-- C 2, base 52, stereo 52, total 128, F 417; 44,100 Hz, 40 frames, padding 832, a loop from 5,000 to 40,000: 94 bytes, then the check
abbrev sample : List ℕ
sample =
    0x48 ∷ 0x43 ∷ 0x41 ∷ 0x00 ∷ 0x02 ∷ 0x00 ∷ 0x00 ∷ 0x60 ∷ 0x66 ∷ 0x6D ∷ 0x74 ∷ 0x00 ∷ 0x02 ∷ 0x00 ∷ 0xAC ∷ 0x44
    ∷ 0x00 ∷ 0x00 ∷ 0x00 ∷ 0x28 ∷ 0x00 ∷ 0x80 ∷ 0x03 ∷ 0x40 ∷ 0x63 ∷ 0x6F ∷ 0x6D ∷ 0x70 ∷ 0x01 ∷ 0xA1 ∷ 0x01 ∷ 0x0F
    ∷ 0x01 ∷ 0x00 ∷ 0x80 ∷ 0x34 ∷ 0x34 ∷ 0x03 ∷ 0x00 ∷ 0x00 ∷ 0x6C ∷ 0x6F ∷ 0x6F ∷ 0x70 ∷ 0x00 ∷ 0x00 ∷ 0x00 ∷ 0x05
    ∷ 0x00 ∷ 0x00 ∷ 0x00 ∷ 0x27 ∷ 0x00 ∷ 0x08 ∷ 0x03 ∷ 0x40 ∷ 0x63 ∷ 0x69 ∷ 0x70 ∷ 0x68 ∷ 0x00 ∷ 0x00 ∷ 0x70 ∷ 0x61
    ∷ 0x64 ∷ (replicate 29 0 ++ (0xDA ∷ 0x93 ∷ []))

abbrev sample_stream : Stream
sample_stream = record { rate = 44100; frames = 40; padding = 832; points = Some (record { start = 5000; end = 40000 }) }

-- a loop's frame, delay, end frame and padding
abbrev loop_of : (frame delay end_frame padding : ℕ) → LoopFields
loop_of frame delay end_frame padding = record { start_frame = frame; end_frame = end_frame; delay = delay; padding = padding }

pub sample-written : sample ≡ header_of (record {
  channels = 2;
  kinds = replicate 16 (record { kind = Discrete });
  base = 52;
  stereo = 52;
  total = 128;
  frame_size = 417;
  minimum = 1;
  maximum = 15;
  mode = Rust;
}) sample_stream
unfolding header_of pieces byte_of build high_first channel_mapping bands_per_group group_count ceil_div loop_pieces after_loop loop_fields checksum value bits_of bits
sample-written = refl

pub sample_read : read_header sample ≡ Ok (record {
  channels = 2;
  base = 52;
  stereo = 52;
  total = 128;
  frame_size = 417;
  minimum = 1;
  maximum = 15;
  rate = 44100;
  frames = 40;
  padding = 832;
  points = Some (loop_of 5 8 39 832);
})
unfolding read_header exact_read is_sealed checksum value bits_of bits names_right all_stand number_at of_high fields_right limits_right legal_layout
    fields_of
    loop_at loop_right
    rest_zero zero_bytes every bands_per_group ceil_div channel_mapping
sample_read = refl

pub sample-points : points_back (Some (loop_of 5 8 39 832)) ≡ Some (record { start = 5000; end = 40000 })
unfolding points_back start_and_end loop_right
sample-points = refl

-- a header with another check
abbrev mended : (check : ℕ) (header : List ℕ) → List ℕ
mended check header = set (set header 94 (check / 256)) 95 (check % 256)

abbrev answer_to : (header : List ℕ) → Outcome
answer_to header = header_read_outcome (read_header header)

pub nine_rows :
    (answer_to (set sample 95 0x92) ≡ refused 26 0)
    × (answer_to (mended 0x7308 (set sample 11 1)) ≡ refused 27 0)
    × (answer_to (mended 0x9032 (set (set (set sample 8 0) 12 0) 70 1)) ≡ refused 27 0)
    × (answer_to (mended 0x9929 (set sample 7 0x5F)) ≡ refused 28 0)
    × (answer_to (mended 0xE57F (set sample 37 4)) ≡ refused 28 0)
    × (answer_to (mended 0x52B0 (set sample 61 0x38)) ≡ refused 28 0)
    × (answer_to (mended 0xF39D (set (set sample 54 4) 55 0)) ≡ refused 28 0)
    × (answer_to (mended 0xDB6D (set (set sample 33 4) 93 1)) ≡ refused 28 0)
    × (answer_to (mended 0xF12C (set sample 38 1)) ≡ refused 29 0)
unfolding header_read_outcome read_header exact_read is_sealed checksum value bits_of bits names_right all_stand number_at of_high fields_right limits_right legal_layout
    fields_of
    loop_at loop_right rest_zero zero_bytes every bands_per_group ceil_div channel_mapping
nine_rows = (refl, refl, refl, refl, refl, refl, refl, refl, refl)

-- the last byte before the check is looked at
pub last_byte : answer_to (mended 0x5A96 (set sample 93 1)) ≡ refused 29 0
unfolding header_read_outcome read_header exact_read is_sealed checksum value bits_of bits names_right all_stand number_at of_high fields_right limits_right legal_layout
    fields_of
    loop_at loop_right rest_zero zero_bytes every bands_per_group ceil_div channel_mapping
last_byte = refl

-- each field under its own place, none like another: the stream's and the loop's eight numbers, the layout's seven, and none beside a refusal
abbrev fields_with : (points : Option LoopFields) → FileHeader
fields_with points = record {
  channels = 2;
  base = 52;
  stereo = 53;
  total = 128;
  frame_size = 417;
  minimum = 3;
  maximum = 15;
  rate = 44100;
  frames = 40;
  padding = 832;
  points = points;
}

pub answered-numbers :
    (header_read_outcome (Ok (fields_with (Some (loop_of 5 8 39 831)))) ≡ delivered (44100 ∷ 40 ∷ 832 ∷ 1 ∷ 5 ∷ 8 ∷ 39 ∷ 831 ∷ []))
    × (header_read_outcome (Ok (fields_with None)) ≡ delivered (44100 ∷ 40 ∷ 832 ∷ 0 ∷ 0 ∷ 0 ∷ 0 ∷ 0 ∷ []))
    × (header_layout (Ok (fields_with None)) ≡ 2 ∷ 52 ∷ 53 ∷ 128 ∷ 417 ∷ 3 ∷ 15 ∷ [])
    × (map header_layout (Err why.ShortBuffer ∷ Err why.WrongCheck ∷ Err why.WrongName ∷ Err why.BadField ∷ Err why.NotZero ∷ [])
    ≡ [] ∷ [] ∷ [] ∷ [] ∷ [] ∷ [])
    × (map header_read_outcome (Err why.ShortBuffer ∷ Err why.WrongCheck ∷ Err why.WrongName ∷ Err why.BadField ∷ Err why.NotZero ∷ [])
    ≡ refused 2 0 ∷ refused 26 0 ∷ refused 27 0 ∷ refused 28 0 ∷ refused 29 0 ∷ [])
unfolding header_read_outcome loop_numbers header_layout
answered-numbers = (refl, refl, refl, refl, refl)
