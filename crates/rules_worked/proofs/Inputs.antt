-- Inputs, and what each rule of document 01 makes of them, by computation. Assumes nothing.
use mathlib.Core.Path.{◌≡◌, refl}
use mathlib.Core.List.{List, [], ◌∷◌, ◌++◌}
use Prim.Native.Nat.{ℕ, ◌+◌}
use lib.IntN.{pos, negsuc}
use lib.Ieee.{Float, binary32, of_bits, le, lt, neg, add, mul, div, to_signed, of_int}
use lib.ListN.{replicate}
use Rattle.bits.specs.Bits.{bits, value, bits_of, pack}
use Rattle.buffers.specs.Walk.{build, blocks, sum_to}
use Rattle.floats.specs.Single.{abs_f, held_f, max_f, min_f, folded, zero_f, one_f, no_average, with_eight, mean_f, mean}
use Rattle.crc.specs.Check.{checksum}
use Rattle.rules.specs.Tables.{scaling_table, resolution_curve, step_table, dead_zone_table, max_bit_table, spectrum_bits, spectrum_value}
use Rattle.rules.specs.Signed.{held_z}
use Rattle.rules.specs.Layout.{legal_layout, kind_at, kinds_of, secondary_at, ceil_div, bands_per_group, group_count, coded_count_at, side_count_at, has_room}
use Rattle.rules.specs.Factor.{count_le, factor_of, peak_of, band_factor, channel_factors, all_factors}
use Rattle.rules.specs.Scaling.{scale_of, scaled_value, scaled_band, channel_scaled, all_scaled}
use Rattle.rules.specs.Hfr.{bands_taken, group_average, spectrum_average, source_average, group_value, hfr_scale, intensity_side, scale_side, channel_side, all_side}
use Rattle.rules.specs.Resolution.{noise_at, curve_position, held_position, resolution_in, resolution, resolution_at, resolutions_of, band_resolution}
use Rattle.rules.specs.Resolution.{channel_resolutions, all_resolutions}
use Rattle.rules.specs.Width.{near, later_cost, delta_cost, cost, all_zero, cheaper, width, width_cost}
use Rattle.rules.specs.Code.{step_of, step_shift, raw_code, magnitude_bits, code_limit, code_of, code_place, recorded_code, code_at, subframe_codes, channel_codes}
use Rattle.rules.specs.Code.{all_codes}
use Rattle.rules.specs.Estimate.{value_bits, band_bits, channel_bits, header_bits, fixed_bits, spectral_bits, used_bits, exceeds}
use Rattle.rules.specs.Level.{clear_two, clear_pair}
use Rattle.rules.specs.Boundary.{last_of}
use Rattle.rules.specs.Record.{rec_of}
use Rattle.rules.specs.Fields.{delta_symbol, delta_bits, small_bits, code_bits, fields}
use Rattle.rules.specs.Frame.{filled_fields, frame_of}
use Rattle.rules.specs.Lent.{no_floats, no_codes, no_factors, no_side}
use Rattle.rules.specs.Stage.{stage_has_room, stage_record}
use Rattle.rules.proofs.Rows.{paired}
use Rattle.rules_demands.proofs.FirstSubframe.{first_only}
use Rattle.rules_worked.proofs.Runs.{halving, narrowing, removal_step, removing, all_finite, Example, Right}
use Rattle.rules.specs.declared.ChannelType.{ChannelType}
use Rattle.rules.specs.declared.ChannelType.TheVariants.{Discrete, StereoSecondary}
use Rattle.rules.specs.declared.Mode.TheVariants.{Rust}
use Rattle.rules.specs.declared.Layout.{Layout}

-- channels of one kind, with so many bands and HFR bands; resolutions 1 to 15
abbrev pub uniform : ChannelType → ℕ → ℕ → ℕ → ℕ → Layout
uniform kind channels bands hfr size = record {
  channels = channels;
  kinds = replicate 16 (record { kind = kind });
  base = bands;
  stereo = 0;
  total = bands + hfr;
  frame_size = size;
  minimum = 1;
  maximum = 15;
  mode = Rust;
}

-- zero spectra
abbrev pub silent : ChannelType → ℕ → ℕ → ℕ → ℕ → ℕ → ℕ → Example
silent kind channels bands size level pairs n =
    let l : Layout = uniform kind channels bands 0 size in
    record {
      layout = l;
      spectra = no_floats l;
      factors = no_factors l;
      analysis = record {
        scaled = no_floats l;
        side = no_side l;
        found = record { level = level; pairs = pairs; factors = no_factors l };
        boundary = 0;
        codes = no_codes l;
      };
      bits = n;
    }

-- document 01's: 5 channels pass, 6 do not
abbrev pub five : Example
five = silent Discrete 5 1 8 0 0 47

abbrev pub six : Example
six = silent Discrete 6 1 8 255 0 50

-- a secondary whose eight intensities leave no room, after one removal
abbrev pub secondary : Example
secondary = silent StereoSecondary 1 3 8 255 1 67

-- the layout of `loud`
abbrev pub quiet : Example
quiet = silent Discrete 1 2 17 0 0 35

-- what 1.0, which has factor 55, is scaled to; and a value that is scaled to the edge of the dead zone of resolution 8
abbrev tone : Float
tone = of_bits binary32 0x3F60CCE0

abbrev edge : Float
edge = of_bits binary32 0xBD16778F

abbrev edge_scaled : Float
edge_scaled = of_bits binary32 0xBD042108

-- two bands, each with 1.0 in the first subframe, and the edge in the second
abbrev pub loud : Example
loud = record {
  layout = uniform Discrete 1 2 0 17;
  spectra = one_f ∷ one_f ∷ replicate 127 zero_f ++ (edge ∷ replicate 894 zero_f);
  factors = 55 ∷ 55 ∷ replicate 126 0;
  analysis = record {
    scaled = tone ∷ replicate 7 zero_f ++ (tone ∷ edge_scaled ∷ replicate 1014 zero_f);
    side = replicate 8 0;
    found = record { level = 173; pairs = 0; factors = 55 ∷ 55 ∷ replicate 126 0 };
    boundary = 1;
    codes = pos 28 ∷ pos 14 ∷ replicate 1022 (pos 0);
  };
  bits = 116;
}

-- the same spectra under other pairs (request A8): 8 is the highest, so that level 0 has room; 9 the lowest, so that no level has
abbrev pub coarse : Example
coarse = record {
  layout = paired 1 8;
  spectra = loud.spectra;
  factors = loud.factors;
  analysis = record {
    scaled = loud.analysis.scaled;
    side = replicate 8 0;
    found = record { level = 0; pairs = 0; factors = loud.factors };
    boundary = 0;
    codes = pos 14 ∷ pos 14 ∷ replicate 1022 (pos 0);
  };
  bits = 108;
}

abbrev pub fine : Example
fine = record {
  layout = paired 9 15;
  spectra = loud.spectra;
  factors = loud.factors;
  analysis = record {
    scaled = loud.analysis.scaled;
    side = replicate 8 0;
    found = record { level = 255; pairs = 0; factors = loud.factors };
    boundary = 0;
    codes = pos 28 ∷ pos 28 ∷ replicate 127 (pos 0) ++ (negsuc 0 ∷ replicate 894 (pos 0));
  };
  bits = 125;
}

-- two bands, with 1.0 in later subframes too, so that both the estimate and the fields come to their limits exactly
abbrev pub later : Example
later = record {
  layout = uniform Discrete 1 2 0 17;
  spectra = one_f ∷ one_f ∷ replicate 510 zero_f ++ blocks (λ _. one_f ∷ replicate 127 zero_f) 4;
  factors = 55 ∷ 55 ∷ replicate 126 0;
  analysis = record {
    scaled = tone ∷ replicate 3 zero_f ++ (replicate 5 tone ++ replicate 1015 zero_f);
    side = replicate 8 0;
    found = record { level = 173; pairs = 0; factors = 55 ∷ 55 ∷ replicate 126 0 };
    boundary = 1;
    codes = pos 28 ∷ pos 14 ∷ replicate 510 (pos 0) ++ blocks (λ _. pos 28 ∷ replicate 127 (pos 0)) 4;
  };
  bits = 120;
}

-- three bands, of which the upper two are loud and have no room: a pair is removed, and the scaled values stay
abbrev pub removed : Example
removed = record {
  layout = uniform Discrete 1 3 0 8;
  spectra = zero_f ∷ one_f ∷ one_f ∷ replicate 1021 zero_f;
  factors = 0 ∷ 55 ∷ 55 ∷ replicate 125 0;
  analysis = record {
    scaled = replicate 8 zero_f ++ (tone ∷ replicate 7 zero_f ++ (tone ∷ replicate 1007 zero_f));
    side = replicate 8 0;
    found = record { level = 0; pairs = 1; factors = replicate 128 0 };
    boundary = 0;
    codes = replicate 1024 (pos 0);
  };
  bits = 35;
}

-- one HFR band of 0.5 over one band of 1.0
abbrev pub hfr : Example
hfr = record {
  layout = uniform Discrete 1 1 1 17;
  spectra = one_f ∷ of_bits binary32 0x3F000000 ∷ replicate 1022 zero_f;
  factors = 55 ∷ replicate 127 0;
  analysis = record {
    scaled = tone ∷ replicate 1023 zero_f;
    side = 47 ∷ replicate 7 0;
    found = record { level = 142; pairs = 0; factors = 55 ∷ replicate 127 0 };
    boundary = 0;
    codes = pos 449 ∷ replicate 1023 (pos 0);
  };
  bits = 120;
}

-- one band whose later subframes lie just below the dead zone: the estimate of 146 bits fits 152, and the fields take 137 where 136 are there
abbrev pub edged : Example
edged = record {
  layout = uniform Discrete 1 1 0 19;
  spectra = of_bits binary32 0x342A8D26 ∷ replicate 127 zero_f ++ blocks (λ _. of_bits binary32 0x2E634C94 ∷ replicate 127 zero_f) 7;
  factors = 1 ∷ replicate 127 0;
  analysis = record {
    scaled = of_bits binary32 0x3F40213B ∷ replicate 7 (of_bits binary32 0x39800759) ++ replicate 1016 zero_f;
    side = replicate 8 0;
    found = record { level = 0; pairs = 0; factors = 1 ∷ replicate 127 0 };
    boundary = 0;
    codes = pos 1537 ∷ replicate 127 (pos 0) ++ blocks (λ _. pos 1 ∷ replicate 127 (pos 0)) 7;
  };
  bits = 137;
}

pub right : Right five × Right six × Right secondary × Right quiet × Right loud × Right later × Right removed × Right hfr × Right edged
    × Right coarse × Right fine
unfolding legal_layout stage_has_room has_room all_finite stage_record all_factors channel_factors band_factor peak_of factor_of count_le scaling_table folded max_f abs_f
    build blocks all_scaled channel_scaled scaled_band scaled_value held_f all_side channel_side intensity_side scale_side group_count bands_per_group ceil_div secondary_at
    kind_at coded_count_at side_count_at removing removal_step halving narrowing exceeds used_bits fixed_bits spectral_bits header_bits channel_bits band_bits value_bits
    resolution_at resolution resolution_in noise_at width width_cost all_zero cost sum_to last_of all_resolutions channel_resolutions band_resolution all_codes
    channel_codes subframe_codes code_at recorded_code rec_of fields kinds_of code_bits resolutions_of bits of_bits le lt raw_code step_of step_shift code_place step_table
    spectrum_bits to_signed add mul held_z clear_pair clear_two code_of max_bit_table magnitude_bits code_limit curve_position held_position resolution_curve dead_zone_table
    scale_of neg div spectrum_value small_bits cheaper delta_cost later_cost near delta_bits delta_symbol hfr_scale spectrum_average source_average group_average
    bands_taken no_average with_eight mean mean_f group_value min_f of_int
right = (refl, refl, refl, refl, refl, refl, refl, refl, refl, refl, refl)

-- and the bytes of some frames
abbrev pub bytes_of : Example → List ℕ
bytes_of e = frame_of e.layout (stage_record e.layout e.analysis)

abbrev pub five_bytes : List ℕ
five_bytes = 0xFF ∷ 0xFF ∷ 0x00 ∷ 0x00 ∷ 0x00 ∷ 0x00 ∷ 0x00 ∷ 0xD8 ∷ []

abbrev pub quiet_bytes : List ℕ
quiet_bytes = 0xFF ∷ 0xFF ∷ 0x00 ∷ 0x00 ∷ 0x00 ∷ 0x00 ∷ 0x00 ∷ 0x00 ∷ 0x00 ∷ 0x00 ∷ 0x00 ∷ 0x00 ∷ 0x00 ∷ 0x00 ∷ 0x00 ∷ 0x02 ∷ 0xFD ∷ []

abbrev pub loud_bytes : List ℕ
loud_bytes = 0xFF ∷ 0xFF ∷ 0x56 ∷ 0x81 ∷ 0x3B ∷ 0xB8 ∷ 0xE0 ∷ 0x00 ∷ 0x00 ∷ 0x00 ∷ 0x00 ∷ 0x00 ∷ 0x00 ∷ 0x00 ∷ 0x00 ∷ 0xE0 ∷ 0x26 ∷ []

abbrev pub later_bytes : List ℕ
later_bytes = 0xFF ∷ 0xFF ∷ 0x56 ∷ 0x81 ∷ 0x3B ∷ 0xB8 ∷ 0xE0 ∷ 0x00 ∷ 0x00 ∷ 0x00 ∷ 0xE0 ∷ 0x38 ∷ 0x0E ∷ 0x03 ∷ 0x80 ∷ 0xA4 ∷ 0xF4 ∷ []

abbrev pub coarse_bytes : List ℕ
coarse_bytes = 0xFF ∷ 0xFF ∷ 0x00 ∷ 0x00 ∷ 0x3B ∷ 0xB9 ∷ 0xC0 ∷ 0x00 ∷ 0x00 ∷ 0x00 ∷ 0x00 ∷ 0x00 ∷ 0x00 ∷ 0x00 ∷ 0x00 ∷ 0x2A ∷ 0xDA ∷ []

pub frames :
    (bytes_of five ≡ five_bytes) × (bytes_of quiet ≡ quiet_bytes) × (bytes_of loud ≡ loud_bytes) × (bytes_of later ≡ later_bytes)
    × (frame_of later.layout (first_only (stage_record later.layout later.analysis)) ≡ loud_bytes)
    × (bytes_of coarse ≡ coarse_bytes)
unfolding stage_record rec_of build kind_at coded_count_at side_count_at kinds_of group_count bands_per_group ceil_div fields width cheaper all_zero cost delta_cost later_cost
    near delta_bits delta_symbol code_bits small_bits code_place spectrum_bits spectrum_value held_z magnitude_bits max_bit_table resolutions_of resolution_at resolution
    resolution_in noise_at held_position curve_position resolution_curve frame_of filled_fields bits value bits_of pack checksum blocks
frames = (refl, refl, refl, refl, refl, refl)

-- the edge costs a bit in the estimate (133, with the check's 16) and none in the frame (116 and 16)
pub estimated : used_bits loud.layout loud.analysis.scaled loud.factors 173 1 ≡ 133
unfolding used_bits fixed_bits spectral_bits header_bits channel_bits band_bits value_bits resolution_at resolution resolution_in noise_at width width_cost all_zero cost
    cheaper delta_cost later_cost near sum_to kind_at coded_count_at side_count_at group_count bands_per_group ceil_div raw_code step_of step_shift code_place held_z
    curve_position held_position resolution_curve magnitude_bits max_bit_table dead_zone_table step_table spectrum_bits abs_f of_bits le add mul to_signed
estimated = refl
