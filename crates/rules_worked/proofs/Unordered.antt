-- Request A10's worked inputs: values at the upper clip, whose bits fall as the resolution rises in the Rust's mode. So the halving and the search of the
-- boundary pass by what fits. Assumes nothing.
use mathlib.Core.Path.{◌≡◌, refl, ap}
use mathlib.Core.List.{List, [], ◌∷◌, ◌++◌, map}
use Prim.Native.Nat.{ℕ}
use native.Mathlib.Omega.{arith}
use lib.IntN.{ℤ, pos}
use lib.Ieee.{Float, binary32, of_bits, le, lt, neg, add, mul, div, to_signed, of_int}
use lib.ListN.{replicate}
use Rattle.bits.specs.Bits.{bits}
use Rattle.buffers.specs.Walk.{build, blocks, sum_to}
use Rattle.floats.specs.Single.{abs_f, held_f, max_f, min_f, folded, zero_f, no_average, with_eight, mean_f, mean}
use Rattle.rules.specs.Tables.{scaling_table, resolution_curve, step_table, dead_zone_table, max_bit_table, spectrum_bits, spectrum_value}
use Rattle.rules.specs.Signed.{held_z}
use Rattle.rules.specs.Layout.{legal_layout, kind_at, kinds_of, secondary_at, ceil_div, bands_per_group, group_count, coded_count_at, side_count_at, has_room}
use Rattle.rules.specs.Factor.{count_le, factor_of, peak_of, band_factor, channel_factors, all_factors}
use Rattle.rules.specs.Scaling.{scale_of, scaled_value, scaled_band, channel_scaled, all_scaled}
use Rattle.rules.specs.Hfr.{bands_taken, group_average, spectrum_average, source_average, group_value, hfr_scale, intensity_side, scale_side, channel_side, all_side}
use Rattle.rules.specs.Resolution.{noise_at, curve_position, held_position, resolution_in, resolution, resolution_at, resolutions_of, band_resolution}
use Rattle.rules.specs.Resolution.{channel_resolutions, all_resolutions}
use Rattle.rules.specs.Width.{near, later_cost, delta_cost, cost, all_zero, cheaper, width, width_cost}
use Rattle.rules.specs.Code.{step_of, step_shift, raw_code, magnitude_bits, code_limit, code_of, code_place, recorded_code, code_at, subframe_codes, channel_codes}
use Rattle.rules.specs.Code.{all_codes}
use Rattle.rules.specs.Estimate.{value_bits, band_bits, channel_bits, header_bits, fixed_bits, spectral_bits, used_bits, exceeds}
use Rattle.rules.specs.Level.{clear_two, clear_pair}
use Rattle.rules.specs.Boundary.{last_of}
use Rattle.rules.specs.Fields.{delta_symbol, delta_bits, small_bits, code_bits, fields}
use Rattle.rules.specs.Record.{rec_of}
use Rattle.rules.specs.Refusals.{delivered, refused}
use Rattle.rules.specs.Stage.{stage_has_room, stage_record}
use Rattle.rules.specs.declared.Mode.{Mode}
use Rattle.rules.specs.declared.Mode.TheVariants.{Rust, Held}
use Rattle.rules_worked.proofs.Runs.{halving, narrowing, removal_step, removing, all_finite, Example, Right, run_none, run_outcome}
use Rattle.rules_worked.proofs.Worked.{left}
use Rattle.rules_worked.proofs.Clipping.{discrete}

-- 1000.0 and what it is scaled to; 4.0, which has factor 60, and what it is scaled to
abbrev peak : Float
peak = of_bits binary32 0x447A0000

abbrev top : Float
top = of_bits binary32 0x3F7FFFFE

abbrev tone : Float
tone = of_bits binary32 0x40800000

abbrev tone_scaled : Float
tone_scaled = of_bits binary32 0x3F561B5E

-- one band, eight times 1000.0
abbrev loudest : (mode : Mode) (size level : ℕ) (code : ℤ) (n : ℕ) → Example
loudest mode size level code n = record {
  layout = discrete mode 1 size;
  spectra = blocks (λ _. peak ∷ replicate 127 zero_f) 8;
  factors = 63 ∷ replicate 127 0;
  analysis = record {
    scaled = replicate 8 top ++ replicate 1016 zero_f;
    side = replicate 8 0;
    found = record { level = level; pairs = 0; factors = 63 ∷ replicate 127 0 };
    boundary = 0;
    codes = blocks (λ _. code ∷ replicate 127 (pos 0)) 8;
  };
  bits = n;
}

-- five bands, 1000.0 throughout the fourth, 4.0 in the first subframe of the others
abbrev mixture : (mode : Mode) → Example
mixture mode = record {
  layout = discrete mode 5 17;
  spectra = replicate 3 tone ++ (peak ∷ tone ∷ replicate 123 zero_f ++ blocks (λ _. replicate 3 zero_f ++ (peak ∷ replicate 124 zero_f)) 7);
  factors = 60 ∷ 60 ∷ 60 ∷ 63 ∷ 60 ∷ replicate 123 0;
  analysis = record {
    scaled = blocks (λ _. tone_scaled ∷ replicate 7 zero_f) 3 ++ (replicate 8 top ++ (tone_scaled ∷ replicate 991 zero_f));
    side = replicate 8 0;
    found = record { level = 206; pairs = 0; factors = 60 ∷ 60 ∷ 60 ∷ 63 ∷ 60 ∷ replicate 123 0 };
    boundary = 0;
    codes = replicate 3 (pos 1) ++ (pos 3 ∷ pos 1 ∷ replicate 123 (pos 0) ++ blocks (λ _. replicate 3 (pos 0) ++ (pos 3 ∷ replicate 124 (pos 0))) 7);
  };
  bits = 113;
}

-- F = 8 and F = 10 in both modes, and the mixture
abbrev pub refused_rust : Example
refused_rust = loudest Rust 8 255 (pos 1) 57

abbrev pub refused_held : Example
refused_held = loudest Held 8 255 (pos 1) 57

abbrev pub coarser_rust : Example
coarser_rust = loudest Rust 10 209 (pos 3) 41

abbrev pub finest_held : Example
finest_held = loudest Held 10 213 (pos 1) 57

abbrev pub mixture_rust : Example
mixture_rust = mixture Rust

pub unordered_right : Right refused_rust × Right refused_held × Right coarser_rust × Right finest_held × Right mixture_rust
unfolding legal_layout stage_has_room has_room all_finite stage_record all_factors channel_factors band_factor peak_of factor_of count_le scaling_table folded max_f
    abs_f build blocks all_scaled channel_scaled scaled_band scaled_value held_f all_side channel_side intensity_side scale_side group_count bands_per_group
    ceil_div secondary_at kind_at coded_count_at side_count_at removing removal_step halving narrowing exceeds used_bits fixed_bits spectral_bits header_bits channel_bits
    band_bits value_bits resolution_at resolution resolution_in noise_at width width_cost all_zero cost sum_to last_of all_resolutions channel_resolutions
    band_resolution all_codes channel_codes subframe_codes code_at recorded_code rec_of fields kinds_of code_bits resolutions_of bits of_bits le lt raw_code
    step_of step_shift code_place step_table spectrum_bits to_signed add mul held_z clear_pair clear_two code_of max_bit_table magnitude_bits code_limit
    curve_position held_position resolution_curve dead_zone_table scale_of neg div spectrum_value small_bits cheaper delta_cost later_cost near delta_bits
    delta_symbol hfr_scale spectrum_average source_average group_average bands_taken no_average with_eight mean mean_f group_value min_f of_int
unordered_right = (refl, refl, refl, refl, refl)

pub refused_rust_lem : (left refused_rust).outcome ≡ refused 5 0
refused_rust_lem = ap (λ x. x.outcome) (run_none refused_rust unordered_right.0 (omega arith))

pub refused_held_lem : (left refused_held).outcome ≡ refused 5 0
refused_held_lem = ap (λ x. x.outcome) (run_none refused_held unordered_right.1 (omega arith))

pub coarser_rust_lem : (left coarser_rust).outcome ≡ delivered (209 ∷ 0 ∷ 0 ∷ 41 ∷ [])
coarser_rust_lem = run_outcome coarser_rust unordered_right.2 (omega arith) (omega arith)

pub finest_held_lem : (left finest_held).outcome ≡ delivered (213 ∷ 0 ∷ 0 ∷ 57 ∷ [])
finest_held_lem = run_outcome finest_held unordered_right.3 (omega arith) (omega arith)

pub mixture_rust_lem : (left mixture_rust).outcome ≡ delivered (206 ∷ 0 ∷ 0 ∷ 113 ∷ [])
mixture_rust_lem = run_outcome mixture_rust unordered_right.4 (omega arith) (omega arith)

-- THE ESTIMATE, of levels at boundary 0 and of boundaries at level 206: 202 to 205 and 209 to 212 take fewer bits than the levels around them, and boundary 4
-- fewer than 1; held, it takes more
abbrev levels_of : (e : Example) (levels : List ℕ) → List ℕ
levels_of e = map (λ level. used_bits e.layout e.analysis.scaled e.factors level 0)

abbrev boundaries_of : (e : Example) (boundaries : List ℕ) → List ℕ
boundaries_of e = map (used_bits e.layout e.analysis.scaled e.factors 206)

pub estimates :
    (levels_of refused_rust (202 ∷ 203 ∷ 204 ∷ 205 ∷ 209 ∷ 210 ∷ 211 ∷ 212 ∷ []) ≡ replicate 8 57)
    × (levels_of refused_rust (201 ∷ 206 ∷ 208 ∷ 213 ∷ []) ≡ 89 ∷ 81 ∷ 81 ∷ 73 ∷ [])
    × (levels_of coarser_rust (202 ∷ 203 ∷ 204 ∷ 205 ∷ []) ≡ replicate 4 57)
    × (levels_of finest_held (202 ∷ 205 ∷ 206 ∷ 212 ∷ 213 ∷ []) ≡ 89 ∷ 89 ∷ 81 ∷ 81 ∷ 73 ∷ [])
    × (boundaries_of mixture_rust (0 ∷ 1 ∷ 4 ∷ []) ≡ 129 ∷ 137 ∷ 129 ∷ [])
    × (boundaries_of (mixture Held) (0 ∷ 1 ∷ 4 ∷ []) ≡ 129 ∷ 137 ∷ 161 ∷ [])
unfolding used_bits fixed_bits spectral_bits header_bits channel_bits band_bits value_bits resolution_at resolution resolution_in noise_at width width_cost all_zero cost
    cheaper delta_cost later_cost near sum_to kind_at coded_count_at side_count_at group_count bands_per_group ceil_div raw_code step_of step_shift code_place held_z
    curve_position held_position resolution_curve magnitude_bits max_bit_table dead_zone_table step_table spectrum_bits abs_f of_bits le add mul to_signed blocks
estimates = (refl, refl, refl, refl, refl, refl)
