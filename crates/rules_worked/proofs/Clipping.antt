-- Request A9's worked input: a band that clips, in both modes. The Rust's code is one past its range and gets no bits, so that the reader takes the bits that
-- follow for it; held, the record is read back. Assumes nothing.
use mathlib.Core.Path.{◌≡◌, refl}
use mathlib.Core.List.{List, [], ◌∷◌, ◌++◌, map}
use lib.IntN.{ℤ, pos, negsuc}
use lib.Ieee.{Float, binary32, of_bits, le, lt, neg, add, mul, div, to_signed, of_int}
use lib.ListN.{replicate}
use Rattle.bits.specs.Bits.{bits, value, bits_of, pack}
use Rattle.buffers.specs.Walk.{build, blocks, sum_to}
use Rattle.floats.specs.Single.{abs_f, held_f, max_f, min_f, folded, zero_f, one_f, no_average, with_eight, mean_f, mean}
use Rattle.crc.specs.Check.{checksum}
use Rattle.rules.specs.Tables.{scaling_table, resolution_curve, step_table, dead_zone_table, max_bit_table, spectrum_bits, spectrum_value}
use Rattle.rules.specs.Signed.{held_z}
use Rattle.rules.specs.Layout.{legal_layout, kind_at, kinds_of, secondary_at, ceil_div, bands_per_group, group_count, coded_count_at, side_count_at, has_room}
use Rattle.rules.specs.Factor.{count_le, factor_of, peak_of, band_factor, channel_factors, all_factors}
use Rattle.rules.specs.Scaling.{scale_of, scaled_value, scaled_band, channel_scaled, all_scaled}
use Rattle.rules.specs.Hfr.{bands_taken, group_average, spectrum_average, source_average, group_value, hfr_scale, intensity_side, scale_side, channel_side, all_side}
use Rattle.rules.specs.Resolution.{noise_at, curve_position, held_position, resolution_in, resolution, resolution_at, resolutions_of, band_resolution}
use Rattle.rules.specs.Resolution.{channel_resolutions, all_resolutions}
use Rattle.rules.specs.Width.{near, later_cost, delta_cost, cost, all_zero, cheaper, width, width_cost}
use Rattle.rules.specs.Code.{step_of, step_shift, raw_code, magnitude_bits, code_limit, code_of, code_place, recorded_code, code_at, subframe_codes, channel_codes}
use Rattle.rules.specs.Code.{all_codes}
use Rattle.rules.specs.Estimate.{value_bits, band_bits, channel_bits, header_bits, fixed_bits, spectral_bits, used_bits, exceeds}
use Rattle.rules.specs.Level.{clear_two, clear_pair}
use Rattle.rules.specs.Boundary.{last_of}
use Rattle.rules.specs.Fields.{delta_symbol, delta_bits, small_bits, code_bits, fields}
use Rattle.rules.specs.Frame.{filled_fields, frame_of}
use Prim.Native.Nat.{ℕ}
use native.Mathlib.Omega.{arith}
use Rattle.crc.specs.Sealed.{is_sealed}
use Rattle.rules.specs.Format.{number, strip, one_of}
use Rattle.rules.specs.Record.{Rec, rec_of}
use Rattle.rules.specs.Reading.{accepted, read_code, read_record, read_fields, scan, strict}
use Rattle.rules.specs.Refusals.{delivered}
use Rattle.rules.specs.Stage.{stage_has_room, stage_record}
use Rattle.rules.specs.declared.ChannelType.TheVariants.{Discrete}
use Rattle.rules.specs.declared.Mode.{Mode}
use Rattle.rules.specs.declared.Mode.TheVariants.{Rust, Held}
use Rattle.rules.specs.declared.Layout.{Layout}
use Rattle.rules_worked.proofs.Runs.{halving, narrowing, removal_step, removing, all_finite, Example, Right, run_outcome, run_frame}
use Rattle.rules_worked.proofs.Worked.{left}

-- one Discrete channel of so many bands, resolutions 1 to 15
abbrev pub discrete : (mode : Mode) (bands size : ℕ) → Layout
discrete mode bands size = record {
  channels = 1;
  kinds = replicate 16 (record { kind = Discrete });
  base = bands;
  stereo = 0;
  total = bands;
  frame_size = size;
  minimum = 1;
  maximum = 15;
  mode = mode;
}

-- a band's eight codes as the stage leaves them: one in even and one in odd subframes
abbrev alternating : (even odd : ℤ) → List ℤ
alternating even odd = blocks (λ _. even ∷ replicate 127 (pos 0) ++ (odd ∷ replicate 127 (pos 0))) 4

-- 1000.0 in even and -6.0 in odd subframes: the one is scaled to the clip, the other to about -0.53
abbrev clipping : (mode : Mode) (even : ℤ) (n : ℕ) → Example
clipping mode even n = record {
  layout = discrete mode 1 10;
  spectra = blocks (λ _. of_bits binary32 0x447A0000 ∷ replicate 127 zero_f ++ (of_bits binary32 0xC0C00000 ∷ replicate 127 zero_f)) 4;
  factors = 63 ∷ replicate 127 0;
  analysis = record {
    scaled = blocks (λ _. of_bits binary32 0x3F7FFFFE ∷ of_bits binary32 0xBF07C3B6 ∷ []) 4 ++ replicate 1016 zero_f;
    side = replicate 8 0;
    found = record { level = 209; pairs = 0; factors = 63 ∷ replicate 127 0 };
    boundary = 0;
    codes = alternating even (negsuc 0);
  };
  bits = n;
}

-- at resolution 2: code 3 is one past the range, 2 is within it
abbrev pub past : Example
past = clipping Rust (pos 3) 49

abbrev pub within : Example
within = clipping Held (pos 2) 61

pub clipping_right : Right past × Right within
unfolding legal_layout stage_has_room has_room all_finite stage_record all_factors channel_factors band_factor peak_of factor_of count_le scaling_table folded max_f
    abs_f build blocks all_scaled channel_scaled scaled_band scaled_value held_f all_side channel_side intensity_side scale_side group_count bands_per_group
    ceil_div secondary_at kind_at coded_count_at side_count_at removing removal_step halving narrowing exceeds used_bits fixed_bits spectral_bits header_bits channel_bits
    band_bits value_bits resolution_at resolution resolution_in noise_at width width_cost all_zero cost sum_to last_of all_resolutions channel_resolutions
    band_resolution all_codes channel_codes subframe_codes code_at recorded_code rec_of fields kinds_of code_bits resolutions_of bits of_bits le lt raw_code
    step_of step_shift code_place step_table spectrum_bits to_signed add mul held_z clear_pair clear_two code_of max_bit_table magnitude_bits code_limit
    curve_position held_position resolution_curve dead_zone_table scale_of neg div spectrum_value small_bits cheaper delta_cost later_cost near delta_bits
    delta_symbol hfr_scale spectrum_average source_average group_average bands_taken no_average with_eight mean mean_f group_value min_f of_int
clipping_right = (refl, refl)

-- their frames
abbrev bytes_of : Example → List ℕ
bytes_of e = frame_of e.layout (stage_record e.layout e.analysis)

abbrev pub past_bytes : List ℕ
past_bytes = 0xFF ∷ 0xFF ∷ 0x68 ∷ 0x80 ∷ 0xDF ∷ 0xD5 ∷ 0x00 ∷ 0x00 ∷ 0xFC ∷ 0x9F ∷ []

abbrev pub within_bytes : List ℕ
within_bytes = 0xFF ∷ 0xFF ∷ 0x68 ∷ 0x80 ∷ 0xDF ∷ 0xEB ∷ 0x5A ∷ 0xD0 ∷ 0xA1 ∷ 0x62 ∷ []

clipping-bytes : (bytes_of past ≡ past_bytes) × (bytes_of within ≡ within_bytes)
unfolding stage_record rec_of build kind_at coded_count_at side_count_at kinds_of group_count bands_per_group ceil_div fields width cheaper all_zero cost delta_cost later_cost
    near delta_bits delta_symbol code_bits small_bits code_place spectrum_bits spectrum_value held_z magnitude_bits max_bit_table resolutions_of resolution_at
    resolution resolution_in noise_at held_position curve_position resolution_curve frame_of filled_fields bits value bits_of pack checksum blocks
clipping-bytes = (refl, refl)

-- one band of factor 63 with these codes
abbrev band : (codes : List ℤ) → Rec
band codes = record { level = 209; boundary = 0; chans = record { factors = 63 ∷ []; side = [] } ∷ []; codes = map (λ c. (c ∷ []) ∷ []) codes }

-- THE RUST'S MODE: 49 bits, and the reader takes 57 for another record, the noise that is heard.
pub past-delivered : (left past).outcome ≡ delivered (209 ∷ 0 ∷ 0 ∷ 49 ∷ [])
past-delivered = run_outcome past clipping_right.0 (omega arith) (omega arith)

pub past-frame : (left past).frame ≡ past_bytes
past-frame = run_frame past clipping_right.0 _ clipping-bytes.0 (omega arith) (omega arith)

pub past_read : strict past.layout past_bytes
    ≡ accepted (band (negsuc 0 ∷ negsuc 0 ∷ negsuc 0 ∷ negsuc 0 ∷ pos 0 ∷ pos 0 ∷ pos 0 ∷ pos 0 ∷ [])) 57
unfolding strict is_sealed checksum pack bits_of fields scan read_fields read_record kinds_of kind_at build group_count bands_per_group ceil_div width all_zero
    cheaper cost delta_cost later_cost near bits value number resolutions_of resolution_at resolution resolution_in held_position curve_position noise_at
    resolution_curve held_z code_bits read_code small_bits code_place magnitude_bits max_bit_table spectrum_bits spectrum_value strip one_of delta_bits delta_symbol
    stage_record rec_of coded_count_at side_count_at blocks
past_read = refl

-- HELD MODE: 61 bits, read back as it was written.
pub within-delivered : (left within).outcome ≡ delivered (209 ∷ 0 ∷ 0 ∷ 61 ∷ [])
within-delivered = run_outcome within clipping_right.1 (omega arith) (omega arith)

pub within-frame : (left within).frame ≡ within_bytes
within-frame = run_frame within clipping_right.1 _ clipping-bytes.1 (omega arith) (omega arith)

pub within_read : (strict within.layout within_bytes ≡ accepted (stage_record within.layout within.analysis) 61)
    × (stage_record within.layout within.analysis ≡ band (pos 2 ∷ negsuc 0 ∷ pos 2 ∷ negsuc 0 ∷ pos 2 ∷ negsuc 0 ∷ pos 2 ∷ negsuc 0 ∷ []))
unfolding strict is_sealed checksum pack bits_of fields scan read_fields read_record kinds_of kind_at build group_count bands_per_group ceil_div width all_zero
    cheaper cost delta_cost later_cost near bits value number resolutions_of resolution_at resolution resolution_in held_position curve_position noise_at
    resolution_curve held_z code_bits read_code small_bits code_place magnitude_bits max_bit_table spectrum_bits spectrum_value strip one_of delta_bits delta_symbol
    stage_record rec_of coded_count_at side_count_at blocks
within_read = (refl, refl)
