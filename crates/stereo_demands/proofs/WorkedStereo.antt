-- A stereo call that is delivered, worked out: a primary and a secondary, two mixed bands between one below them and one above, in buffers that hold something
-- and are longer than they need to be. Assumes nothing.
use mathlib.Core.Path.{◌≡◌, refl, ap, ◌∙◌}
use mathlib.Core.List.{List, [], ◌∷◌, ◌++◌}
use mathlib.Core.Bool.{Bool, true, false, not, ◌&&◌}
use Prim.Native.Nat.{ℕ, zero, suc, ◌≤◌, ◌<◌}
use native.Mathlib.Nat.{not-suc-le-zero, le_of_suc-le-suc}
use native.Mathlib.Omega.{arith}
use borrow.Author.Tests.{not-true}
use lib.Dec.{eqb, leb→le}
use lib.IntN.{pos}
use lib.Ieee.{Float, nan, binary32, of_bits, le, lt, neg, add, mul, div, round, to_signed, of_int}
use lib.Ieee.Scale.{finite}
use lib.ListN.{length, get_or, replicate}
use Rattle.bits.specs.Bits.{bits, value, bits_of, pack}
use Rattle.buffers.specs.Walk.{build, blocks, sum_to, first_from, first}
use Rattle.buffers.proofs.Tests.{and_fst, and_snd, all_le, get_d_le}
use Rattle.floats.specs.Single.{abs_f, held_f, max_f, min_f, folded, zero_f, one_f, no_average, with_eight, mean_f, mean}
use Rattle.crc.specs.Check.{checksum}
use Rattle.rules.specs.Tables.{scaling_table, resolution_curve, step_table, dead_zone_table, max_bit_table, spectrum_bits, spectrum_value}
use Rattle.rules.specs.Signed.{held_z}
use Rattle.rules.specs.Layout.{legal_layout, start_band, kind_at, kinds_of, secondary_at, ceil_div, bands_per_group, group_count, coded_count_at, side_count_at, has_room}
use Rattle.rules.specs.Factor.{count_le, factor_of, peak_of, band_factor, channel_factors, all_factors}
use Rattle.rules.specs.Scaling.{scale_of, scaled_value, scaled_band, channel_scaled, all_scaled}
use Rattle.rules.specs.Hfr.{bands_taken, group_average, spectrum_average, source_average, group_value, hfr_scale, intensity_side, scale_side, channel_side, all_side}
use Rattle.rules.specs.Resolution.{noise_at, curve_position, held_position, resolution_in, resolution, resolution_at, resolutions_of, band_resolution}
use Rattle.rules.specs.Resolution.{channel_resolutions, all_resolutions}
use Rattle.rules.specs.Width.{near, later_cost, delta_cost, cost, all_zero, cheaper, width, width_cost}
use Rattle.rules.specs.Code.{step_of, step_shift, raw_code, magnitude_bits, code_limit, code_of, code_place, recorded_code, code_at}
use Rattle.rules.specs.Code.{subframe_codes, channel_codes, all_codes}
use Rattle.rules.specs.Estimate.{value_bits, band_bits, channel_bits, header_bits, fixed_bits, spectral_bits, used_bits, exceeds}
use Rattle.rules.specs.Level.{clear_two, clear_pair, noise_level}
use Rattle.rules.specs.Boundary.{last_of}
use Rattle.rules.specs.Record.{rec_of}
use Rattle.rules.specs.Fields.{delta_symbol, delta_bits, small_bits, code_bits, fields}
use Rattle.rules.specs.Frame.{filled_fields, frame_of}
use Rattle.rules.specs.Refusals.{delivered}
use Rattle.rules.specs.Stage.{StageLent, stage_lent, stage_room, stage_has_room, bad_intensity, bad_spectrum, Analysis, analysis, stage_record, after_level}
use Rattle.rules.specs.Stage.{stage_overwrite, encode_frame}
use Rattle.rules.specs.declared.ChannelType.TheVariants.{Discrete, StereoPrimary, StereoSecondary}
use Rattle.rules.specs.declared.Mode.TheVariants.{Rust}
use Rattle.rules.specs.declared.Layout.{Layout}
use Rattle.rules_demands.proofs.Exactly.{first_passed}
use Rattle.rules_stereo.specs.Mixed.{ratio_bounds, signal, loudness, energies, combined_of, stored_of, bound_of, intensity_of, ratio_of, band_mixed, bands_mixed}
use Rattle.rules_stereo.specs.Mixed.{energies_at, subframe_mixed, subframes_mixed, pair_mixed, paired_at, channel_mixed, channels_mixed, mixed}
use Rattle.rules_stereo.specs.Stereo.{with_signal, too_loud, lent_signal, mixed_front, signal_overwrite, encode_stereo_frame}
use Rattle.rules_worked.proofs.Runs.{lazily, halving, narrowing, removal_step, removing, remove-is, boundary-is, made_is, all_finite, stage_made, done}
use Rattle.rules_worked.proofs.Runs.{settled_done, Sheet}
use Rattle.stereo_demands.proofs.StereoIsStage.{StereoGood, mixed_lent, stereo_is_stage}

abbrev float : ℕ → Float
float pattern = of_bits binary32 pattern

-- ---- what is lent

-- a primary and a secondary, bands 1 and 2 mixed, 26 bytes
abbrev pub pair : Layout
pair = record {
  channels = 2;
  kinds = record { kind = StereoPrimary } ∷ record { kind = StereoSecondary } ∷ replicate 14 (record { kind = Discrete });
  base = 1;
  stereo = 2;
  total = 3;
  frame_size = 26;
  minimum = 1;
  maximum = 15;
  mode = Rust;
}

-- the first subframe has 1, 1, 2, 5 on the left and 0.5, 3, -1, 0.25 on the right
abbrev pub unmixed : List Float
unmixed =
    one_f ∷ one_f ∷ float 0x40000000 ∷ float 0x40A00000 ∷ replicate 1020 zero_f
    ++ (float 0x3F000000 ∷ float 0x40400000 ∷ float 0xBF800000 ∷ float 0x3E800000 ∷ replicate 1020 zero_f)

abbrev pub lent : StageLent
lent = stage_lent unmixed (replicate 16 9) (replicate 2049 one_f) (replicate 2049 (pos 1)) (replicate 257 1) (replicate 17 1) (replicate 27 0xEE)

-- ---- what is left

-- the left's mixed bands are 4 x 0.7 and 1 x 0.7, the right's are 0; bands 0 and 3 keep their bits
abbrev pub mixed_values : List Float
mixed_values =
    one_f ∷ float 0x40333333 ∷ float 0x3F333333 ∷ float 0x40A00000 ∷ replicate 1020 zero_f
    ++ (float 0x3F000000 ∷ zero_f ∷ zero_f ∷ float 0x3E800000 ∷ replicate 1020 zero_f)

-- the right's are written, 0 in the silent subframes; the left's stay
abbrev pub mixed_intensities : List ℕ
mixed_intensities = replicate 8 9 ++ (8 ∷ replicate 7 0)

abbrev pub factors_of : List ℕ
factors_of = 55 ∷ 59 ∷ 54 ∷ replicate 125 0 ++ (53 ∷ replicate 127 0)

abbrev pub its : Analysis
its = record {
  scaled =
      float 0x3F60CCE0 ∷ replicate 7 zero_f ++ (float 0x3F47B2B6 ∷ replicate 7 zero_f ++ (float 0x3F51ABFE ∷ replicate 1007 zero_f
      ++ (float 0x3F478D74 ∷ replicate 1023 zero_f)));
  side = replicate 8 0 ++ (8 ∷ replicate 7 0);
  found = record { level = 183; pairs = 0; factors = factors_of };
  boundary = 1;
  codes = pos 5 ∷ pos 12 ∷ pos 4 ∷ replicate 1021 (pos 0) ++ (pos 3 ∷ replicate 1023 (pos 0));
}

abbrev pub bytes : List ℕ
bytes =
    0xFF ∷ 0xFF ∷ 0x5B ∷ 0x81 ∷ 0x9B ∷ 0xD9 ∷ 0x6D ∷ 0x60 ∷ 0x00 ∷ 0x00 ∷ 0x00 ∷ 0x3B ∷ 0x1D ∷ 0x80 ∷ 0x00 ∷ 0x00 ∷ 0x00 ∷ 0x00 ∷ 0x00 ∷ 0x00
    ∷ 0x00 ∷ 0x00 ∷ 0x00 ∷ 0x00 ∷ 0x57 ∷ 0xB6 ∷ []

-- ---- nothing of it is bad or too loud

-- finite, and not above 65,536
abbrev is_fine : (x : Float) → Bool
is_fine x = finite x && not (lt (float 0x47800000) (abs_f x))

unfoldable all_fine : List Float → Bool
all_fine [] = true
all_fine (x ∷ xs) = is_fine x && all_fine xs

fine-at : (xs : List Float) → all_fine xs ≡ true → (i : ℕ) → i < length xs → is_fine (get_or xs i nan) ≡ true
unfolding all_fine
fine-at [] e i h = absurd (not-suc-le-zero h)
fine-at (x ∷ xs) e zero h = and_fst (is_fine x) (all_fine xs) e
fine-at (x ∷ xs) e (suc i) h = fine-at xs (and_snd (is_fine x) (all_fine xs) e) i (le_of_suc-le-suc h)

all_fine_lem : all_fine unmixed ≡ true
unfolding all_fine of_bits lt abs_f
all_fine_lem = refl

fine : (i : ℕ) → i < 2048 → is_fine (get_or unmixed i nan) ≡ true
fine i h = fine-at unmixed all_fine_lem i h

few : (i : ℕ) → i < 16 → bad_intensity pair lent.intensities i ≡ false
unfolding bad_intensity secondary_at kind_at first_from
few = first_passed (bad_intensity pair lent.intensities) 16 (leb→le 16 (first (bad_intensity pair lent.intensities) 16) tt)

good : StereoGood pair lent
unfolding legal_layout stage_has_room has_room bad_spectrum too_loud
good = record {
  good = record {
    layout = refl;
    room = refl;
    intensities = few;
    spectra = λ i h. ap not (and_fst (finite (get_or unmixed i nan)) _ (fine i h));
  };
  quiet = λ i h. not-true _ (and_snd (finite (get_or unmixed i nan)) _ (fine i h));
}

-- ---- it is mixed

mixing : mixed_front pair (lent_signal lent) ≡ signal mixed_values mixed_intensities
unfolding mixed_front of_bits add mul div lt le round abs_f held_f ratio_bounds first_from kind_at loudness energies combined_of stored_of bound_of intensity_of
    ratio_of band_mixed bands_mixed energies_at subframe_mixed subframes_mixed pair_mixed paired_at channel_mixed channels_mixed mixed
mixing = refl

-- what the stage is lent then
abbrev with : (spectra : List Float) (intensities : List ℕ) → StageLent
with spectra intensities = stage_lent spectra intensities lent.scaled lent.codes lent.factors lent.side lent.frame

abbrev now : StageLent
now = with mixed_values mixed_intensities

now-is : mixed_lent pair lent ≡ now
now-is = ap (λ s. with (signal_overwrite s (lent_signal lent)).spectra (signal_overwrite s (lent_signal lent)).intensities) mixing

-- ---- and encoded

abbrev over : (boundary : ℕ) → Bool
over boundary = exceeds pair its.scaled factors_of 183 boundary

-- each step from what is stated of the steps before it
abbrev worked_out : Sheet
worked_out = record {
  legal = legal_layout pair;
  room = stage_has_room pair (stage_room now);
  size = length mixed_values;
  whole = all_finite mixed_values;
  factors = all_factors pair mixed_values;
  analysis = record {
    scaled = all_scaled pair mixed_values factors_of;
    side = all_side pair mixed_values its.scaled mixed_intensities;
    found = removing pair (λ fs level. exceeds pair its.scaled fs level 0) 64 (start_band pair) 0 factors_of;
    boundary = lazily (eqb 183 0) (λ _. 0) (λ _. narrowing over 127 0 127);
    codes = all_codes pair (all_resolutions pair 183 1 factors_of) its.scaled;
  };
  bits = length (fields pair (stage_record pair its));
}

right : worked_out ≡ record { legal = true; room = true; size = 2048; whole = true; factors = factors_of; analysis = its; bits = 190 }
unfolding legal_layout stage_has_room has_room all_finite stage_record all_factors channel_factors band_factor peak_of factor_of count_le scaling_table folded max_f abs_f
    build blocks all_scaled channel_scaled scaled_band scaled_value held_f all_side channel_side intensity_side scale_side group_count bands_per_group ceil_div
    secondary_at kind_at coded_count_at side_count_at removing removal_step halving narrowing exceeds used_bits fixed_bits spectral_bits header_bits channel_bits band_bits
    value_bits resolution_at resolution resolution_in noise_at width width_cost all_zero cost sum_to last_of all_resolutions channel_resolutions band_resolution
    all_codes channel_codes subframe_codes code_at recorded_code rec_of fields kinds_of code_bits resolutions_of bits of_bits le lt raw_code step_of step_shift
    code_place step_table spectrum_bits to_signed add mul held_z clear_pair clear_two code_of max_bit_table magnitude_bits code_limit curve_position held_position
    resolution_curve dead_zone_table scale_of neg div spectrum_value small_bits cheaper delta_cost later_cost near delta_bits delta_symbol hfr_scale
    spectrum_average source_average group_average bands_taken no_average with_eight mean mean_f group_value min_f of_int
right = refl

frame_is : frame_of pair (stage_record pair its) ≡ bytes
unfolding stage_record rec_of build kind_at coded_count_at side_count_at kinds_of group_count bands_per_group ceil_div fields width cheaper all_zero cost delta_cost later_cost
    near
    delta_bits delta_symbol code_bits small_bits code_place spectrum_bits spectrum_value held_z magnitude_bits max_bit_table resolutions_of resolution_at
    resolution resolution_in noise_at held_position curve_position resolution_curve frame_of filled_fields bits value bits_of pack checksum blocks
frame_is = refl

made_now : analysis pair mixed_values mixed_intensities ≡ its
unfolding noise_level
made_now =
    made_is pair mixed_values mixed_intensities factors_of its.scaled its.side its.found 1 its.codes (ap (λ w. w.factors) right)
    (ap (λ w. w.analysis.scaled) right) (ap (λ w. w.analysis.side) right) (remove-is _ _ _ _ _ _ ∙ ap (λ w. w.analysis.found) right)
    (boundary-is 183 over ∙ ap (λ w. w.analysis.boundary) right) (ap (λ w. w.analysis.codes) right)

small : (i : ℕ) → get_or mixed_intensities i 0 ≤ 15
unfolding all_le
small = get_d_le 15 mixed_intensities refl

staged : encode_frame pair now ≡ stage_overwrite now (done its 190 bytes)
staged =
    stage_made pair now (ap (λ w. w.legal) right) (ap (λ w. w.room) right) refl (ap (λ w. w.whole) right) small
    ∙ ap (λ m. stage_overwrite now (after_level pair m)) made_now
    ∙ ap (stage_overwrite now) (settled_done pair its 190 bytes (omega arith) (ap (λ w. w.bits) right) (omega arith) frame_is)

-- The call is delivered: level 183, boundary 1, no pairs removed, 190 bits; spectra and intensities are the mixed ones, the five buffers hold what was made of
-- them, and what is longer keeps its rest.
pub pair-delivered : encode_stereo_frame pair lent ≡ record {
  outcome = delivered (183 ∷ 1 ∷ 0 ∷ 190 ∷ []);
  spectra = mixed_values;
  intensities = mixed_intensities;
  scaled = its.scaled ++ (one_f ∷ []);
  codes = its.codes ++ (pos 1 ∷ []);
  factors = factors_of ++ (1 ∷ []);
  side = its.side ++ (1 ∷ []);
  frame = bytes ++ (0xEE ∷ []);
}
pair-delivered = stereo_is_stage pair lent good ∙ ap (λ u. with_signal (lent_signal u) (encode_frame pair u)) now-is ∙ ap (with_signal (lent_signal now)) staged
