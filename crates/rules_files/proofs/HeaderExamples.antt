-- Request A1: the second example, worked out; and the ends of the loop points. Assumes nothing.
use mathlib.Core.Path.{◌≡◌, refl}
use mathlib.Core.List.{[], ◌∷◌, ◌++◌, map}
use mathlib.Core.Bool.{Bool, true, false}
use Prim.Native.Nat.{ℕ, ◌+◌}
use lib.ListN.{length, replicate}
use Rattle.std.specs.Prelude.{Option, Some, None, Ok, Err}
use Rattle.bits.specs.Bits.{bits, value, bits_of}
use Rattle.buffers.specs.Walk.{build}
use Rattle.crc.specs.Check.{checksum}
use Rattle.numbers.specs.Numbers.{high_first, of_high}
use Rattle.rules.specs.Layout.{legal_layout, bands_per_group, group_count, ceil_div}
use Rattle.rules.specs.Refusals.{delivered, refused}
use Rattle.rules.specs.declared.ChannelType.TheVariants.{Discrete}
use Rattle.rules.specs.declared.Mode.TheVariants.{Rust}
use Rattle.rules.specs.declared.Layout.{Layout}
use Rattle.rules_files.specs.declared.header.LoopPoints.{LoopPoints}
use Rattle.rules_files.specs.declared.header.LoopFields.{LoopFields}
use Rattle.rules_files.specs.declared.header.Stream.{Stream}
use Rattle.rules_files.specs.FileHeader.{channel_mapping, valid_mappings, channel_config, loop_fields, loop_pieces, after_loop, pieces, byte_of, header_of}
use Rattle.rules_files.specs.FileHeader.{Piece, piece, piece_bytes, magic_pieces, format_pieces, frame_pieces, band_pieces, field_pieces, tail_pieces}
use Rattle.rules_files.specs.declared.header.HeaderRefusal.TheVariants as why
use Rattle.rules_files.specs.FileHeader.{header_outcome, fits_points, fits_header, write_header}

-- base 64, total 100, 170 bytes a frame
abbrev pub voices : (channels : ℕ) → Layout
voices channels = record {
  channels = channels;
  kinds = replicate 16 (record { kind = Discrete });
  base = 64;
  stereo = 0;
  total = 100;
  frame_size = 170;
  minimum = 1;
  maximum = 15;
  mode = Rust;
}

-- a loop from start to end
abbrev loop : (start end : ℕ) → Option LoopPoints
loop start end = Some (record { start = start; end = end })

-- 48,000 Hz, 47 frames, padding 512, a loop from 0 to 896: its end is an edge
abbrev pub looped : Stream
looped = record { rate = 48000; frames = 47; padding = 512; points = loop 0 896 }

pub worked_header : header_of (voices 1) looped ≡
    0x48 ∷ 0x43 ∷ 0x41 ∷ 0x00 ∷ 0x02 ∷ 0x00 ∷ 0x00 ∷ 0x60 ∷ 0x66 ∷ 0x6D ∷ 0x74 ∷ 0x00 ∷ 0x01 ∷ 0x00 ∷ 0xBB ∷ 0x80
    ∷ 0x00 ∷ 0x00 ∷ 0x00 ∷ 0x2F ∷ 0x00 ∷ 0x80 ∷ 0x02 ∷ 0x00 ∷ 0x63 ∷ 0x6F ∷ 0x6D ∷ 0x70 ∷ 0x00 ∷ 0xAA ∷ 0x01 ∷ 0x0F
    ∷ 0x01 ∷ 0x01 ∷ 0x64 ∷ 0x40 ∷ 0x00 ∷ 0x05 ∷ 0x00 ∷ 0x00 ∷ 0x6C ∷ 0x6F ∷ 0x6F ∷ 0x70 ∷ 0x00 ∷ 0x00 ∷ 0x00 ∷ 0x00
    ∷ 0x00 ∷ 0x00 ∷ 0x00 ∷ 0x00 ∷ 0x00 ∷ 0x80 ∷ 0x00 ∷ 0x00 ∷ 0x63 ∷ 0x69 ∷ 0x70 ∷ 0x68 ∷ 0x00 ∷ 0x00 ∷ 0x70 ∷ 0x61
    ∷ 0x64 ∷ (replicate 29 0 ++ (0x23 ∷ 0x8C ∷ []))
unfolding header_of pieces byte_of build high_first channel_mapping bands_per_group group_count ceil_div loop_pieces after_loop loop_fields checksum value bits_of bits
worked_header = refl

-- seventeen channels are no layout; nine are one, and 95 bytes are refused before them
pub one_two_sixteen :
    ((write_header (voices 17) looped (replicate 95 0)).outcome ≡ refused 1 0)
    × ((write_header (voices 9) looped (replicate 95 0)).outcome ≡ refused 2 0) × ((write_header (voices 9) looped (replicate 96 0)).outcome ≡ refused 16 0)
unfolding write_header fits_header fits_points legal_layout
one_two_sixteen = (refl, refl, refl)

-- the largest points; and the largest end on an edge
pub largest_points : loop_fields 4294967167 4294967167 ≡ record { start_frame = 0x3FFFFF; end_frame = 0x3FFFFF; delay = 0x3FF; padding = 1 }
unfolding loop_fields
largest_points = refl

pub largest_edge : loop_fields 0 4294966144 ≡ record { start_frame = 0; end_frame = 0x3FFFFE; delay = 128; padding = 0 }
unfolding loop_fields
largest_edge = refl

-- no two fields alike, and every byte of each in use: 3 channels, base 50, stereo 20, total 100, 0xA1B2 bytes a frame
abbrev pub mixed_bands : Layout
mixed_bands = record {
  channels = 3;
  kinds = replicate 16 (record { kind = Discrete });
  base = 50;
  stereo = 20;
  total = 100;
  frame_size = 0xA1B2;
  minimum = 1;
  maximum = 15;
  mode = Rust;
}

abbrev pub full_stream : (points : Option LoopPoints) → Stream
full_stream points = record { rate = 0x123456; frames = 0x0A0B0C0D; padding = 0x0E1F; points = points }

-- with a loop inside frames 0x2060A1 and 0x2464A5
pub looped-header : header_of mixed_bands (full_stream (loop 0x81828384 0x91929394)) ≡
    0x48 ∷ 0x43 ∷ 0x41 ∷ 0x00 ∷ 0x02 ∷ 0x00 ∷ 0x00 ∷ 0x60 ∷ 0x66 ∷ 0x6D ∷ 0x74 ∷ 0x00 ∷ 0x03 ∷ 0x12 ∷ 0x34 ∷ 0x56
    ∷ 0x0A ∷ 0x0B ∷ 0x0C ∷ 0x0D ∷ 0x00 ∷ 0x80 ∷ 0x0E ∷ 0x1F ∷ 0x63 ∷ 0x6F ∷ 0x6D ∷ 0x70 ∷ 0xA1 ∷ 0xB2 ∷ 0x01 ∷ 0x0F
    ∷ 0x01 ∷ 0x04 ∷ 0x64 ∷ 0x32 ∷ 0x14 ∷ 0x04 ∷ 0x00 ∷ 0x00 ∷ 0x6C ∷ 0x6F ∷ 0x6F ∷ 0x70 ∷ 0x00 ∷ 0x20 ∷ 0x60 ∷ 0xA1
    ∷ 0x00 ∷ 0x24 ∷ 0x64 ∷ 0xA5 ∷ 0x00 ∷ 0x04 ∷ 0x03 ∷ 0xEC ∷ 0x63 ∷ 0x69 ∷ 0x70 ∷ 0x68 ∷ 0x00 ∷ 0x00 ∷ 0x70 ∷ 0x61
    ∷ 0x64 ∷ (replicate 29 0 ++ (0x48 ∷ 0x8A ∷ []))
unfolding header_of pieces byte_of build high_first channel_mapping bands_per_group group_count ceil_div loop_pieces after_loop loop_fields checksum value bits_of bits
looped-header = refl

-- and with none
pub plain-header : header_of mixed_bands (full_stream None) ≡
    0x48 ∷ 0x43 ∷ 0x41 ∷ 0x00 ∷ 0x02 ∷ 0x00 ∷ 0x00 ∷ 0x60 ∷ 0x66 ∷ 0x6D ∷ 0x74 ∷ 0x00 ∷ 0x03 ∷ 0x12 ∷ 0x34 ∷ 0x56
    ∷ 0x0A ∷ 0x0B ∷ 0x0C ∷ 0x0D ∷ 0x00 ∷ 0x80 ∷ 0x0E ∷ 0x1F ∷ 0x63 ∷ 0x6F ∷ 0x6D ∷ 0x70 ∷ 0xA1 ∷ 0xB2 ∷ 0x01 ∷ 0x0F
    ∷ 0x01 ∷ 0x04 ∷ 0x64 ∷ 0x32 ∷ 0x14 ∷ 0x04 ∷ 0x00 ∷ 0x00 ∷ 0x63 ∷ 0x69 ∷ 0x70 ∷ 0x68 ∷ 0x00 ∷ 0x00 ∷ 0x70 ∷ 0x61
    ∷ 0x64 ∷ (replicate 45 0 ++ (0x84 ∷ 0x79 ∷ []))
unfolding header_of pieces byte_of build high_first channel_mapping bands_per_group group_count ceil_div loop_pieces after_loop loop_fields checksum value bits_of bits
plain-header = refl

-- each limit of refusal 16 is taken, and the next number is not
abbrev fitting : (channels rate frames padding : ℕ) (points : Option LoopPoints) → Bool
fitting channels rate frames padding points = fits_header (voices channels) (record { rate = rate; frames = frames; padding = padding; points = points })

pub sixteen_row :
    fitting 8 1 0 0 None ∷ fitting 8 0x7FFFFF 0xFFFFFFFF 0xFFFF (loop 0xFFFFFF7F 0xFFFFFF7F) ∷ []
    ++ (fitting 9 1 0 0 None ∷ fitting 8 0 0 0 None ∷ fitting 8 0x800000 0 0 None ∷ fitting 8 1 0x100000000 0 None ∷ fitting 8 1 0 0x10000 None
    ∷ fitting 8 1 0 0 (loop 0xFFFFFF80 0) ∷ fitting 8 1 0 0 (loop 0 0xFFFFFF80) ∷ [])
    ≡ true ∷ true ∷ replicate 7 false
unfolding fits_header fits_points
sixteen_row = refl

-- the number of each answer
pub header-numbers :
    map header_outcome (Ok tt ∷ Err why.BadLayout ∷ Err why.ShortBuffer ∷ Err why.BadHeader ∷ [])
    ≡ delivered [] ∷ refused 1 0 ∷ refused 2 0 ∷ refused 16 0 ∷ []
unfolding header_outcome
header-numbers = refl

-- the Rust's second table, a byte an entry: which configurations are valid for 1 to 8 channels
pub valid_row : (map of_high valid_mappings
    ≡ 0x0001000000000000 ∷ 0x0100000000000000 ∷ 0x0001010001000000 ∷ 0x0100000100010000 ∷ 0x0001010000000001 ∷ 0x0000000100000000 ∷ 0x0000000000000001
    ∷ 0x0000000100000000 ∷ []) × (map length valid_mappings ≡ replicate 8 8)
unfolding valid_mappings of_high
valid_row = (refl, refl)

-- the configuration of 0 to 8 channels; past the Rust's table it is 0
pub config_row : map channel_config (0 ∷ 1 ∷ 2 ∷ 3 ∷ 4 ∷ 5 ∷ 6 ∷ 7 ∷ 8 ∷ 9 ∷ []) ≡ 0 ∷ 1 ∷ 0 ∷ 4 ∷ 0 ∷ 1 ∷ 3 ∷ 7 ∷ 3 ∷ 0 ∷ []
unfolding channel_mapping
config_row = refl

-- each number of a piece under its own name; its bytes are its value in so many bytes
pub piece_names : (offset width value : ℕ) → let p = piece offset width value in
    (p.offset ≡ offset) × (p.width ≡ width) × (p.value ≡ value) × (piece_bytes p ≡ high_first width value)
piece_names offset width value = (refl, refl, refl, refl)

-- where each field stands, and in how many bytes
abbrev place : Piece → ℕ × ℕ
place p = (p.offset, p.width)

pub piece_places : (l : Layout) (st : Stream) (f : LoopFields) (at : ℕ) →
    (map place magic_pieces ≡ (0, 4) ∷ (4, 2) ∷ (6, 2) ∷ [])
    × (map place (format_pieces l.channels st) ≡ (8, 4) ∷ (12, 1) ∷ (13, 3) ∷ (16, 4) ∷ (20, 2) ∷ (22, 2) ∷ [])
    × (map place (frame_pieces l) ≡ (24, 4) ∷ (28, 2) ∷ (30, 1) ∷ (31, 1) ∷ (32, 1) ∷ [])
    × (map place (band_pieces l) ≡ (33, 1) ∷ (34, 1) ∷ (35, 1) ∷ (36, 1) ∷ (37, 1) ∷ [])
    × (map place (field_pieces f) ≡ (40, 4) ∷ (44, 4) ∷ (48, 4) ∷ (52, 2) ∷ (54, 2) ∷ [])
    × (map place (tail_pieces at) ≡ (at, 4) ∷ (at + 4, 2) ∷ (at + 6, 4) ∷ [])
piece_places l st f at = (refl, refl, refl, refl, refl, refl)
