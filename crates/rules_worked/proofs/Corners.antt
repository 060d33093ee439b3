-- What the other worked numbers leave open: every entry of the tables by a sum over the source text's, what is held at both ends, the lengths of lent
-- buffers, and each buffer under its own name. Assumes nothing.
use mathlib.Core.Path.{◌≡◌, refl}
use mathlib.Core.List.{List, [], ◌∷◌, ◌++◌, map}
use mathlib.Core.Bool.{Bool, true, false}
use Prim.Native.Nat.{ℕ, ◌+◌, ◌-◌, ◌*◌, ◌^◌}
use lib.Dec.{ltb}
use lib.IntN.{ℤ, pos, negsuc}
use lib.Signed.{lt_z}
use lib.Ieee.{Float, binary32, of_bits, to_bits, add, mul, div, lt, le, neg, round, to_signed, of_int}
use lib.Ieee.Scale.{finite}
use lib.ListN.{length, replicate, set}
use Rattle.bits.specs.Bits.{bits}
use Rattle.buffers.specs.Walk.{build, blocks, every, sum_to}
use Rattle.floats.specs.Single.{zero_f, one_f, abs_f, max_f, min_f, held_f, folded, no_average, with_eight, mean, mean_f}
use Rattle.rules.specs.Tables.{scaling_table, resolution_curve, step_table, dead_zone_table, max_bit_table, spectrum_bits, spectrum_value}
use Rattle.rules.specs.Signed.{held_z, as_i32}
use Rattle.rules.specs.Factor.{count_le, factor_of, peak_of, band_factor}
use Rattle.rules.specs.Hfr.{bands_taken, group_average, spectrum_average, source_average, sqrt2, group_value, hfr_scale, intensity_side, scale_side, channel_side}
use Rattle.rules.specs.Hfr.{all_side}
use Rattle.rules.specs.Scaling.{scale_of, scaled_value, scaled_band}
use Rattle.rules.specs.Resolution.{noise_at, curve_position, held_position, resolution_in, resolution, resolution_at}
use Rattle.rules.specs.Estimate.{value_bits, band_bits, channel_bits, spectral_bits}
use Rattle.rules.specs.Record.{code_range, legal_head, legal_row, legal_subframe}
use Rattle.rules.specs.Fields.{small_bits, code_bits}
use Rattle.rules.specs.Code.{code_place, code_at, step_of, step_shift, raw_code, code_of, recorded_code, code_limit, magnitude_bits}
use Rattle.rules.specs.Layout.{legal_layout, kind_at, secondary_at, ceil_div, bands_per_group, group_count, coded_count, coded_count_at, side_count, side_width, has_room}
use Rattle.rules.specs.Refusals.{delivered, refused, stage_outcome, writer_outcome, reader_outcome}
use Rattle.rules.specs.Stage.{StageLent, stage_lent, stage_left, stage_room, stage_has_room, bad_intensity, bad_spectrum}
use Rattle.rules.specs.Writer.{writer_lent, writer_left, writer_has_room}
use Rattle.rules.specs.Reader.{reader_lent, reader_left, reader_has_room}
use Rattle.rules.specs.declared.ChannelType.{ChannelType}
use Rattle.rules.specs.declared.ChannelType.TheVariants.{Discrete, StereoPrimary, StereoSecondary}
use Rattle.rules.specs.declared.Mode.TheVariants.{Rust}
use Rattle.rules.specs.declared.Layout.{Layout}
use Rattle.rules.proofs.Rows.{paired}
use Rattle.std.specs.Prelude.{Result, Ok, Err}
use Rattle.rules.specs.declared.Delivery.{Delivery}
use Rattle.rules.specs.declared.RecordDelivery.{RecordDelivery}
use Rattle.rules.specs.declared.StageRefusal.{StageRefusal}
use Rattle.rules.specs.declared.StageRefusal.TheVariants as stage
use Rattle.rules.specs.declared.WriteRefusal.{WriteRefusal}
use Rattle.rules.specs.declared.WriteRefusal.TheVariants as write
use Rattle.rules.specs.declared.ReadRefusal.{ReadRefusal}
use Rattle.rules.specs.declared.ReadRefusal.TheVariants as read

-- ---- the tables: each entry times its place, from 1. The sums are of source document 000's own text

pub weighed : (place : ℕ) (xs : List ℕ) → ℕ
weighed k [] = 0
weighed k (x ∷ xs) = k * x + weighed (k + 1) xs

abbrev patterns : List Float → ℕ
patterns xs = weighed 1 (map (to_bits binary32) xs)

pub tables_weighed :
    (patterns scaling_table ≡ 2124277646951) × (weighed 1 resolution_curve ≡ 12525) × (patterns step_table ≡ 152167325696)
    × (patterns dead_zone_table ≡ 135362236661) × (weighed 1 max_bit_table ≡ 1021)
    × (map (weighed 1) spectrum_bits ≡ 0 ∷ 45 ∷ 108 ∷ 180 ∷ 261 ∷ 351 ∷ 441 ∷ 531 ∷ [])
    × (map (weighed 1) spectrum_value ≡ 0 ∷ 44 ∷ 141 ∷ 237 ∷ 440 ∷ 750 ∷ 951 ∷ 1043 ∷ [])
unfolding weighed scaling_table resolution_curve step_table dead_zone_table max_bit_table spectrum_bits spectrum_value of_bits to_bits
tables_weighed = (refl, refl, refl, refl, refl, refl, refl)

-- and how many there are
pub tables_long :
    length scaling_table ∷ length resolution_curve ∷ length step_table ∷ length dead_zone_table ∷ length max_bit_table ∷ map length spectrum_bits
    ≡ 64 ∷ 59 ∷ 16 ∷ 16 ∷ 16 ∷ replicate 8 16
unfolding scaling_table resolution_curve step_table dead_zone_table max_bit_table spectrum_bits
tables_long = refl

-- ---- what is held

-- below, at and between the ends, and above
pub held-row : map (held_z (negsuc 7) (pos 7)) (negsuc 8 ∷ negsuc 7 ∷ pos 0 ∷ pos 7 ∷ pos 8 ∷ []) ≡ negsuc 7 ∷ negsuc 7 ∷ pos 0 ∷ pos 7 ∷ pos 7 ∷ []
unfolding held_z
held-row = refl

-- `as i32`: toward zero, held to 32 bits, 0 for NaN
pub cast_row : map (λ p. as_i32 (of_bits binary32 p)) (0x3FFFFFFF ∷ 0xBFFFFFFF ∷ 0x4F000000 ∷ 0xCF800000 ∷ 0x7FC00000 ∷ [])
    ≡ pos 1 ∷ negsuc 0 ∷ pos 2147483647 ∷ negsuc 2147483647 ∷ pos 0 ∷ []
unfolding of_bits to_signed
cast_row = refl

-- a scaled value within ±0x3F7FFFFE; 0.0 at factor 0
abbrev scaled : (factor pattern : ℕ) → ℕ
scaled factor p = to_bits binary32 (scaled_value factor (of_bits binary32 p))

pub clip_row_lem : scaled 63 0x7F000000 ∷ scaled 63 0xFF000000 ∷ scaled 1 0x3F800000 ∷ scaled 0 0x7F000000 ∷ [] ≡ 0x3F7FFFFE ∷ 0xBF7FFFFE ∷ 0x3F7FFFFE ∷ 0 ∷ []
unfolding scaled_value scale_of scaling_table held_f of_bits to_bits mul div lt neg
clip_row_lem = refl

-- the position far below 0 and far above 58; noise below the boundary, at it, and not below 0
pub position_row :
    resolution (paired 1 15) 0 63 ∷ resolution (paired 1 15) 500 1 ∷ resolution (paired 1 15) 500 0 ∷ noise_at 5 3 2 ∷ noise_at 5 3 3 ∷ noise_at 0 3 2 ∷ []
    ≡ 15 ∷ 1 ∷ 0 ∷ 4 ∷ 5 ∷ 0 ∷ []
unfolding resolution resolution_in held_position curve_position resolution_curve held_z noise_at
position_row = refl

-- the codes of both clips at resolutions 0 to 15
abbrev codes_of : (pattern : ℕ) → List ℤ
codes_of p = map (λ r. recorded_code Rust r (of_bits binary32 p)) (0 ∷ 1 ∷ 2 ∷ 3 ∷ 4 ∷ 5 ∷ 6 ∷ 7 ∷ 8 ∷ 9 ∷ 10 ∷ 11 ∷ 12 ∷ 13 ∷ 14 ∷ 15 ∷ [])

pub clip-codes :
    (codes_of 0x3F7FFFFE ≡ map pos (0 ∷ 1 ∷ 3 ∷ 3 ∷ 5 ∷ 6 ∷ 6 ∷ 7 ∷ 15 ∷ 31 ∷ 63 ∷ 127 ∷ 255 ∷ 511 ∷ 1023 ∷ 2047 ∷ []))
    × (codes_of 0xBF7FFFFE ≡ pos 0 ∷ map negsuc (0 ∷ 1 ∷ 2 ∷ 3 ∷ 4 ∷ 5 ∷ 6 ∷ 14 ∷ 30 ∷ 62 ∷ 126 ∷ 254 ∷ 510 ∷ 1022 ∷ 2046 ∷ []))
unfolding recorded_code code_of raw_code step_of step_shift step_table code_limit magnitude_bits max_bit_table held_z of_bits add mul to_signed
clip-codes = (refl, refl)

-- one channel of a kind; bands
abbrev kinded : ChannelType → Layout
kinded k = record {
  channels = 1;
  kinds = replicate 16 (record { kind = k });
  base = 1;
  stereo = 0;
  total = 1;
  frame_size = 9;
  minimum = 1;
  maximum =
      15;
  mode = Rust;
}

abbrev bands : (base stereo : ℕ) → Layout
bands base stereo = record {
  channels = 1;
  kinds = replicate 16 (record { kind = Discrete });
  base = base;
  stereo = stereo;
  total = 10;
  frame_size = 9;
  minimum = 1;
  maximum = 15;
  mode = Rust;
}

-- ---- refusal 2: no buffer may be one shorter. One channel, nine bytes a frame

abbrev mono : Layout
mono = record {
  channels = 1;
  kinds = replicate 16 (record { kind = Discrete });
  base = 1;
  stereo = 0;
  total = 1;
  frame_size = 9;
  minimum = 1;
  maximum =
      15;
  mode = Rust;
}

abbrev lent_of : (spectra intensities scaled codes factors side frame : ℕ) → StageLent
lent_of spectra intensities scaled codes factors side frame =
    stage_lent (replicate spectra zero_f) (replicate intensities 0) (replicate scaled zero_f) (replicate codes (pos 0)) (replicate factors 0) (replicate side 0)
    (replicate frame 0)

pub stage_rooms :
    map (λ t. stage_has_room mono (stage_room t))
    (lent_of 1024 8 1024 1024 128 8 9 ∷ lent_of 1023 8 1024 1024 128 8 9 ∷ lent_of 1024 7 1024 1024 128 8 9 ∷ lent_of 1024 8 1023 1024 128 8 9
    ∷ lent_of 1024 8 1024 1023 128 8 9 ∷ lent_of 1024 8 1024 1024 127 8 9 ∷ lent_of 1024 8 1024 1024 128 7 9 ∷ lent_of 1024 8 1024 1024 128 8 8 ∷ [])
    ≡ true ∷ replicate 7 false
unfolding stage_has_room has_room
stage_rooms = refl

abbrev writes : (factors side codes frame : ℕ) → Bool
writes factors side codes frame = writer_has_room mono (writer_lent 0 0 (replicate factors 0) (replicate side 0) (replicate codes (pos 0)) (replicate frame 0))

abbrev reads : (factors side codes frame : ℕ) → Bool
reads factors side codes frame = reader_has_room mono (reader_lent (replicate frame 0) (replicate factors 0) (replicate side 0) (replicate codes (pos 0)))

pub record_rooms :
    (writes 128 8 1024 9 ∷ writes 127 8 1024 9 ∷ writes 128 7 1024 9 ∷ writes 128 8 1023 9 ∷ writes 128 8 1024 8 ∷ [] ≡ true ∷ replicate 4 false)
    × (reads 128 8 1024 9 ∷ reads 127 8 1024 9 ∷ reads 128 7 1024 9 ∷ reads 128 8 1023 9 ∷ reads 128 8 1024 8 ∷ [] ≡ true ∷ replicate 4 false)
unfolding has_room
record_rooms = (refl, refl)

-- ---- each limit of a layout is taken, and the next number is not

abbrev layout : (channels base stereo total size : ℕ) → Bool
layout channels base stereo total size =
    legal_layout (record {
      channels = channels;
      kinds = replicate 16 (record { kind = Discrete });
      base = base;
      stereo = stereo;
      total = total;
      frame_size = size;
      minimum = 1;
      maximum = 15;
      mode = Rust;
    })

pub layout_row :
    layout 1 0 0 1 8 ∷ layout 16 100 28 128 65535 ∷ []
    ≡ true ∷ true ∷ []
unfolding legal_layout
layout_row = refl

pub no_layout_row :
    layout 0 0 0 1 8 ∷ layout 17 0 0 1 8 ∷ layout 1 0 0 0 8 ∷ layout 1 0 0 129 8 ∷ layout 1 100 29 128 8 ∷ layout 1 0 0 1 7 ∷ layout 1 0 0 1 65536 ∷ []
    ≡ replicate 7 false
unfolding legal_layout
no_layout_row = refl

-- request A8: each limit of the pair is taken, and the next number is not
abbrev pair_taken : (minimum maximum : ℕ) → Bool
pair_taken minimum maximum = legal_layout (paired minimum maximum)

pub pair_row :
    (pair_taken 1 15 ∷ pair_taken 1 1 ∷ pair_taken 15 15 ∷ pair_taken 8 9 ∷ [] ≡ replicate 4 true)
    × (pair_taken 0 15 ∷ pair_taken 1 16 ∷ pair_taken 9 8 ∷ pair_taken 16 16 ∷ pair_taken 16 15 ∷ pair_taken 0 0 ∷ pair_taken 257 271 ∷ pair_taken 1 0xFFFFFFFF ∷ []
    ≡ replicate 8 false)
unfolding legal_layout
pair_row = (refl, refl)

-- ---- each buffer of a call is lent and left under its own name

module _ (spectra : List Float) (intensities : List ℕ) (scaled : List Float) (codes : List ℤ) (factors side frame : List ℕ) (level boundary : ℕ)
    (a : Result Delivery StageRefusal) (w : Result RecordDelivery WriteRefusal) (r : Result RecordDelivery ReadRefusal) where
  pub stage_names :
      let t = stage_lent spectra intensities scaled codes factors side frame in
      let x = stage_left a scaled codes factors side frame in
      (t.spectra ≡ spectra) × (t.intensities ≡ intensities) × (t.scaled ≡ scaled) × (t.codes ≡ codes) × (t.factors ≡ factors) × (t.side ≡ side)
      × (t.frame ≡ frame) × (x.outcome ≡ stage_outcome a) × (x.scaled ≡ scaled) × (x.codes ≡ codes) × (x.factors ≡ factors) × (x.side ≡ side)
      × (x.frame ≡ frame)
  stage_names = (refl, refl, refl, refl, refl, refl, refl, refl, refl, refl, refl, refl, refl)

  pub writer_names :
      let t = writer_lent level boundary factors side codes frame in
      let x = writer_left w frame in
      (t.level ≡ level) × (t.boundary ≡ boundary) × (t.factors ≡ factors) × (t.side ≡ side) × (t.codes ≡ codes) × (t.frame ≡ frame)
      × (x.outcome ≡ writer_outcome w) × (x.frame ≡ frame)
  writer_names = (refl, refl, refl, refl, refl, refl, refl, refl)

  pub reader_names :
      let t = reader_lent frame factors side codes in
      let x = reader_left r factors side codes in
      (t.frame ≡ frame) × (t.factors ≡ factors) × (t.side ≡ side) × (t.codes ≡ codes) × (x.outcome ≡ reader_outcome r) × (x.factors ≡ factors)
      × (x.side ≡ side) × (x.codes ≡ codes)
  reader_names = (refl, refl, refl, refl, refl, refl, refl, refl)

-- ---- the number of each answer, and the number beside it

pub answer-numbers :
    (map stage_outcome (Ok (record { level = 1; boundary = 2; pairs = 3; bits = 4 }) ∷ Err stage.BadLayout ∷ Err stage.ShortBuffer
    ∷ Err (stage.BadIntensity 9) ∷ Err (stage.BadSpectrum 9)
    ∷ Err (stage.NoLevel 9) ∷ Err (stage.TooLong 9) ∷ [])
    ≡ delivered (1 ∷ 2 ∷ 3 ∷ 4 ∷ []) ∷ refused 1 0 ∷ refused 2 0 ∷ refused 3 9 ∷ refused 4 9 ∷ refused 5 9 ∷ refused 7 9 ∷ [])
    × (map writer_outcome (Ok (record { level = 1; boundary = 2; bits = 3 }) ∷ Err write.BadLayout ∷ Err write.ShortBuffer ∷ Err write.NotLegal
    ∷ Err (write.TooLong 9) ∷ [])
    ≡ delivered (1 ∷ 2 ∷ 3 ∷ []) ∷ refused 1 0 ∷ refused 2 0 ∷ refused 15 0 ∷ refused 7 9 ∷ [])
    × (map reader_outcome (Ok (record { level = 1; boundary = 2; bits = 3 }) ∷ Err read.BadLayout ∷ Err read.ShortBuffer ∷ Err read.WrongCheck
    ∷ Err read.WrongSync
    ∷ Err (read.BadWidth 9) ∷ Err (read.BadFactor 9) ∷ Err (read.PastEnd 9) ∷ Err (read.FillNotZero 9) ∷ [])
    ≡ delivered (1 ∷ 2 ∷ 3 ∷ []) ∷ refused 1 0 ∷ refused 2 0 ∷ refused 8 0 ∷ refused 9 0 ∷ refused 11 9 ∷ refused 12 9 ∷ refused 13 9 ∷ refused 14 9 ∷ [])
unfolding stage_outcome writer_outcome reader_outcome
answer-numbers = (refl, refl, refl)

-- ---- the ranges of a legal record, and what 3 and 4 look at

-- a code's range at each resolution; a factor, a scale and an intensity at their limits, and a value past the count
pub range_row : map code_range (0 ∷ 1 ∷ 2 ∷ 6 ∷ 7 ∷ 8 ∷ 9 ∷ 15 ∷ []) ≡ 0 ∷ 1 ∷ 2 ∷ 6 ∷ 7 ∷ 15 ∷ 31 ∷ 2047 ∷ []
unfolding code_range code_limit magnitude_bits max_bit_table
range_row = refl

pub legal_row_lem :
    legal_head 511 127 ∷ legal_head 512 0 ∷ legal_head 0 128 ∷ legal_row 2 64 3 (63 ∷ 0 ∷ 0 ∷ []) ∷ legal_row 2 64 3 (0 ∷ 64 ∷ 0 ∷ []) ∷ legal_row 2 64 3
    (0 ∷ 0 ∷ 1 ∷ [])
    ∷ legal_subframe (7 ∷ 8 ∷ []) (negsuc 6 ∷ pos 15 ∷ []) ∷ legal_subframe (7 ∷ 8 ∷ []) (pos 8 ∷ []) ∷ legal_subframe (7 ∷ 8 ∷ []) (pos 0 ∷ negsuc 15 ∷ [])
    ∷ legal_subframe (7 ∷ 8 ∷ []) (pos 0 ∷ pos 0 ∷ pos 1 ∷ []) ∷ []
    ≡ true ∷ false ∷ false ∷ true ∷ false ∷ false ∷ true ∷ false ∷ false ∷ false ∷ []
unfolding legal_head legal_row legal_subframe every code_range code_limit magnitude_bits max_bit_table
legal_row_lem = refl

-- side values: 8 of 4 bits for a secondary, else G of 6
pub side-row : side_width StereoSecondary ∷ side_width StereoPrimary ∷ side_width Discrete ∷ side_count mono StereoSecondary ∷ coded_count (bands 5 2)
    StereoSecondary
    ∷ coded_count (bands 5 2) StereoPrimary ∷ coded_count (bands 5 2) Discrete ∷ [] ≡ 4 ∷ 6 ∷ 6 ∷ 8 ∷ 5 ∷ 7 ∷ 7 ∷ []
side-row = refl

-- an intensity of 16 counts in a secondary alone; 15 does not; a spectrum that is infinite or NaN does
pub judged-row :
    map (bad_intensity (kinded StereoSecondary) (15 ∷ 16 ∷ [])) (0 ∷ 1 ∷ []) ≡ false ∷ true ∷ []
unfolding bad_intensity secondary_at kind_at
judged-row = refl

pub unjudged_row : bad_intensity (kinded Discrete) (16 ∷ []) 0 ∷ bad_intensity (kinded StereoPrimary) (16 ∷ []) 0 ∷ [] ≡ false ∷ false ∷ []
unfolding bad_intensity secondary_at kind_at
unjudged_row = refl

pub spectrum_row : map (bad_spectrum (map (of_bits binary32) (0x7F7FFFFF ∷ 0x7F800000 ∷ 0xFF800000 ∷ 0x7FC00000 ∷ []))) (0 ∷ 1 ∷ 2 ∷ 3 ∷ [])
    ≡ false ∷ true ∷ true ∷ true ∷ []
unfolding bad_spectrum of_bits
spectrum_row = refl

-- ---- the last resolution of the tables, and the first past them: written, and counted

pub written_row :
    (code_bits 7 (pos 7) ≡ bits 4 14) × (code_bits 7 (negsuc 6) ≡ bits 4 15) × (code_bits 7 (pos 0) ≡ bits 3 0) × (code_bits 8 (negsuc 14) ≡ bits 5 31)
    × (code_bits 8 (pos 0) ≡ bits 4 0) × (code_bits 15 (pos 2047) ≡ bits 12 4094) × (code_bits 0 (pos 0) ≡ [])
unfolding code_bits small_bits code_place spectrum_bits spectrum_value magnitude_bits max_bit_table held_z bits
written_row = (refl, refl, refl, refl, refl, refl, refl)

pub counted_row :
    map (λ r. value_bits Rust r (of_bits binary32 0x3F7FFFFE)) (0 ∷ 1 ∷ 3 ∷ 6 ∷ 7 ∷ 8 ∷ 15 ∷ []) ++ map (λ r. value_bits Rust r zero_f) (0 ∷ 1 ∷ 7 ∷ 8 ∷ 15 ∷ [])
    ≡ 0 ∷ 2 ∷ 3 ∷ 4 ∷ 4 ∷ 5 ∷ 12 ∷ 0 ∷ 1 ∷ 3 ∷ 4 ∷ 11 ∷ []
unfolding value_bits raw_code step_of step_shift step_table code_place spectrum_bits magnitude_bits max_bit_table dead_zone_table held_z of_bits add mul to_signed le abs_f
counted_row = refl

-- ---- all eight subframes: band 3's value stands in the last, and is its peak; its scaled values and codes by subframe; its bits are eight values'

abbrev last_loud : List Float
last_loud = set (set (replicate 1024 zero_f) 3 (of_bits binary32 0x3F800000)) 899 (of_bits binary32 0xC0000000)

pub eight_peaks : map (λ b. to_bits binary32 (peak_of last_loud b)) (2 ∷ 3 ∷ 4 ∷ []) ≡ 0 ∷ 0x40000000 ∷ 0 ∷ []
unfolding peak_of folded of_bits to_bits lt abs_f max_f
eight_peaks = refl

-- what stands eight places on is another band's
pub own_peaks : map (λ b. to_bits binary32 (peak_of (set (replicate 1024 zero_f) 11 (of_bits binary32 0x40000000)) b)) (3 ∷ 11 ∷ []) ≡ 0 ∷ 0x40000000 ∷ []
unfolding peak_of folded of_bits to_bits lt abs_f max_f
own_peaks = refl

-- factor 57's entry is 0x400164D2, a little above 2.0; bands 2 and 4 are silent, and past the coded count a factor is 0
pub own_factor : band_factor last_loud 4 3 ∷ band_factor last_loud 4 2 ∷ band_factor last_loud 5 4 ∷ band_factor last_loud 3 3 ∷ [] ≡ 57 ∷ 0 ∷ 0 ∷ 0 ∷ []
unfolding band_factor factor_of count_le scaling_table peak_of folded of_bits lt le abs_f max_f
own_factor = refl

pub eight_scaled : map (to_bits binary32) (scaled_band last_loud (replicate 128 57) 4 3) ≡ 0x3EFD3E0C ∷ 0 ∷ 0 ∷ 0 ∷ 0 ∷ 0 ∷ 0 ∷ 0xBF7D3E0C ∷ []
unfolding scaled_band scaled_value scale_of scaling_table build held_f of_bits to_bits mul div lt neg
eight_scaled = refl

pub eight_bits_lem : band_bits Rust (replicate 1024 zero_f) 3 8 ∷ band_bits Rust (set (replicate 1024 zero_f) 31 one_f) 3 8 ∷ band_bits Rust
    (set (replicate 1024 zero_f) 32 one_f) 3 8 ∷ [] ≡ 32 ∷ 33 ∷ 32 ∷ []
unfolding band_bits sum_to value_bits magnitude_bits max_bit_table dead_zone_table of_bits le abs_f
eight_bits_lem = refl

-- two channels of one band: the second's first and last values reach the dead zone, its factor is 20 and the others are 0, so that only it takes bits
abbrev two : Layout
two = record {
  channels = 2;
  kinds = replicate 16 (record { kind = Discrete });
  base = 1;
  stereo = 0;
  total = 1;
  frame_size = 9;
  minimum = 1;
  maximum = 15;
  mode = Rust;
}

pub second_bits : spectral_bits two (set (set (replicate 2048 zero_f) 1024 one_f) 1031 one_f) (set (replicate 256 0) 128 20) 0 0 ≡ 90
unfolding spectral_bits channel_bits band_bits sum_to value_bits resolution_at noise_at resolution resolution_in held_position curve_position resolution_curve coded_count_at
    kind_at raw_code step_of step_shift step_table code_place spectrum_bits magnitude_bits max_bit_table dead_zone_table held_z of_bits add mul to_signed le abs_f
second_bits = refl

pub eight_codes : map (λ s. code_at Rust (replicate 128 15) (set (replicate 1024 zero_f) 31 (of_bits binary32 0x3F7FFFFE)) s 3) (0 ∷ 6 ∷ 7 ∷ [])
    ≡ pos 0 ∷ pos 0 ∷ pos 2047 ∷ []
unfolding code_at recorded_code code_of raw_code step_of step_shift step_table code_limit magnitude_bits max_bit_table held_z of_bits add mul to_signed
eight_codes = refl

-- ---- HFR

-- SQRT_2 is the single nearest to the root of 2: 2 lies between the squares of what is halfway to its neighbours
pub root_row : (to_bits binary32 sqrt2 ≡ 0x3FB504F3) × (ltb ((2 * 0xB504F3 - 1) ^ 2) (2 ^ 49) ≡ true) × (ltb (2 ^ 49) ((2 * 0xB504F3 + 1) ^ 2) ≡ true)
unfolding of_bits to_bits
root_row = (refl, refl, refl)

-- bands a group and groups, of so many HFR bands
abbrev grouped : (bands : ℕ) → Layout
grouped bands = record { channels = 1; kinds = []; base = 0; stereo = 0; total = bands; frame_size = 9; minimum = 1; maximum = 15; mode = Rust }

abbrev counts : List ℕ
counts = 0 ∷ 1 ∷ 8 ∷ 9 ∷ 16 ∷ 17 ∷ 128 ∷ []

pub group_row :
    (map (λ n. bands_per_group (grouped n)) counts ≡ 0 ∷ 1 ∷ 1 ∷ 2 ∷ 2 ∷ 3 ∷ 16 ∷ [])
    × (map (λ n. group_count (grouped n)) counts ≡ 0 ∷ 1 ∷ 8 ∷ 5 ∷ 8 ∷ 6 ∷ 8 ∷ [])
unfolding bands_per_group group_count ceil_div
group_row = (refl, refl)

-- no source; 1 / 0.5 is above SQRT_2; 1 / 0.8 is not
pub value_row :
    map (λ p. to_bits binary32 (group_value (of_bits binary32 0x40400000) (of_bits binary32 p))) (0 ∷ 0x3F000000 ∷ 0x3F4CCCCD ∷ [])
    ≡ 0x40400000 ∷ 0x4087C3B6 ∷ 0x40700000 ∷ []
unfolding group_value of_bits to_bits mul div lt min_f
value_row = refl

-- three coded bands of scaled values 1.0, 2.0 and 4.0, five HFR bands: the source goes down from band 2 and ends with band 0
abbrev three : Layout
three = record { channels = 1; kinds = []; base = 2; stereo = 1; total = 8; frame_size = 9; minimum = 1; maximum = 15; mode = Rust }

abbrev steps : List Float
steps = replicate 8 one_f ++ (replicate 8 (of_bits binary32 0x40000000) ++ replicate 1008 (of_bits binary32 0x40800000))

pub source_row : map (λ j. to_bits binary32 (mean (source_average three steps j))) (0 ∷ 1 ∷ 2 ∷ 3 ∷ []) ≡ 0x40800000 ∷ 0x40000000 ∷ 0x3F800000 ∷ 0 ∷ []
unfolding source_average group_average bands_taken with_eight no_average mean mean_f bands_per_group ceil_div folded of_bits to_bits add div lt abs_f of_int
source_row = refl

-- each channel by its own values: the second's band 1 has 1.0 in one subframe, an average of 0.125; the third is a secondary
abbrev sided : Layout
sided = record {
  channels = 3;
  kinds = record { kind = Discrete } ∷ record { kind = StereoPrimary } ∷ record { kind = StereoSecondary } ∷ [];
  base = 1;
  stereo = 0;
  total = 2;
  frame_size = 9;
  minimum = 1;
  maximum = 15;
  mode = Rust;
}

pub side-rows :
    all_side sided (set (replicate 3072 zero_f) 1025 one_f) (replicate 3072 zero_f) (replicate 16 9 ++ (1 ∷ 2 ∷ 3 ∷ 4 ∷ 5 ∷ 6 ∷ 7 ∷ 8 ∷ []))
    ≡ replicate 8 0 ++ (48 ∷ replicate 7 0 ++ (1 ∷ 2 ∷ 3 ∷ 4 ∷ 5 ∷ 6 ∷ 7 ∷ 8 ∷ []))
unfolding all_side channel_side intensity_side scale_side hfr_scale secondary_at kind_at build blocks group_value spectrum_average source_average group_average bands_taken
    with_eight no_average mean mean_f bands_per_group group_count ceil_div folded factor_of count_le scaling_table of_bits add mul div lt le abs_f of_int
side-rows = refl

-- N = 119, total 128: g = 2, and the fifth group has band 127 alone: it stops at band 128
pub stops_at_128 : (xs : List Float)
    → spectrum_average (record { channels = 1; kinds = []; base = 119; stereo = 0; total = 128; frame_size = 9; minimum = 1; maximum = 15; mode = Rust }) xs 4
    ≡ with_eight xs 127 128 no_average
unfolding spectrum_average group_average bands_taken bands_per_group ceil_div
stops_at_128 xs = refl
