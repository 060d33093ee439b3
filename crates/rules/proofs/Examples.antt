-- Worked frames: what the laws alone do not pin, as each refusal's number and bit; and document 01's HFR groups of 100 and 117 bands.
use mathlib.Core.Path.{◌≡◌, refl}
use mathlib.Core.List.{List, [], ◌∷◌, ◌++◌, map}
use mathlib.Core.Bool.{Bool}
use Prim.Native.Nat.{ℕ}
use lib.IntN.{ℤ, pos, negsuc}
use lib.Ieee.{Float}
use lib.ListN.{replicate, take}
use Rattle.buffers.specs.Walk.{build}
use Rattle.bits.specs.Bits.{bits, value, bits_of, pack, zeros}
use Rattle.crc.specs.Check.{checksum}
use Rattle.crc.specs.Sealed.{is_sealed}
use Rattle.rules.specs.Format.{number, strip, one_of}
use Rattle.rules.specs.Tables.{resolution_curve, max_bit_table, spectrum_bits, spectrum_value}
use Rattle.rules.specs.Signed.{held_z}
use Rattle.floats.specs.Single.{no_average, with_eight}
use Rattle.rules.specs.Layout.{start_band, kind_at, kinds_of, ceil_div, bands_per_group, group_count}
use Rattle.rules.specs.Hfr.{bands_taken, group_average, spectrum_average}
use Rattle.rules.specs.Resolution.{noise_at, curve_position, held_position, resolution_in, resolution, resolution_at, resolutions_of}
use Rattle.rules.specs.Width.{near, later_cost, delta_cost, cost, all_zero, cheaper, width}
use Rattle.rules.specs.Code.{code_place, magnitude_bits}
use Rattle.rules.specs.Record.{Rec}
use Rattle.rules.specs.Fields.{delta_symbol, delta_bits, small_bits, code_bits, fields}
use Rattle.rules.specs.Frame.{filled_fields, frame_of}
use Rattle.rules.specs.Reading.{read_code, read_record, read_fields, accepted, faulty, scan, strict}
use Rattle.rules.specs.declared.ChannelType.TheVariants.{Discrete, StereoPrimary, StereoSecondary}
use Rattle.rules.specs.declared.Mode.TheVariants.{Rust}
use Rattle.rules.specs.declared.Layout.{Layout}

-- n Discrete channels with b coded bands and no others, F = 8
abbrev flat : ℕ → ℕ → Layout
flat n b = record {
  channels = n;
  kinds = replicate n (record { kind = Discrete });
  base = b;
  stereo = 0;
  total = b;
  frame_size = 8;
  minimum = 1;
  maximum = 15;
  mode = Rust;
}

-- n silent channels of one band, with this head
abbrev headed : (level boundary n : ℕ) → Rec
headed level boundary n = record {
  level = level;
  boundary = boundary;
  chans = replicate n (record { factors = 0 ∷ []; side = [] });
  codes = replicate 8 (replicate n (pos 0 ∷ []));
}

abbrev quiet : ℕ → Rec
quiet n = headed 0 0 n

-- one band with this factor and these codes
abbrev lone : (level boundary factor : ℕ) (codes : List ℤ) → Rec
lone level boundary factor codes = record {
  level = level;
  boundary = boundary;
  chans = record { factors = factor ∷ []; side = [] } ∷ [];
  codes = map (λ c. (c ∷ []) ∷ []) codes;
}

-- one primary, one secondary; widths 3 and 1, each with an escape; resolutions 9 (8 but for the boundary), 8, 4 and 1
abbrev pair : Layout
pair = record {
  channels = 2;
  kinds = record { kind = StereoPrimary } ∷ record { kind = StereoSecondary } ∷ [];
  base = 5;
  stereo = 1;
  total = 15;
  frame_size = 48;
  minimum = 1;
  maximum = 15;
  mode = Rust;
}

abbrev loud : Rec
loud = record {
  level = 193;
  boundary = 1;
  chans =
      record { factors = 63 ∷ 61 ∷ 58 ∷ 10 ∷ 10 ∷ 11 ∷ []; side = 1 ∷ 2 ∷ 3 ∷ 4 ∷ 63 ∷ [] }
      ∷ record { factors = 63 ∷ 0 ∷ 0 ∷ 0 ∷ 0 ∷ []; side = 0 ∷ 1 ∷ 2 ∷ 3 ∷ 4 ∷ 15 ∷ 6 ∷ 7 ∷ [] }
      ∷ [];
  codes = replicate 8 ((pos 1 ∷ negsuc 1 ∷ negsuc 3 ∷ pos 0 ∷ pos 1 ∷ negsuc 0 ∷ []) ∷ (negsuc 30 ∷ pos 0 ∷ pos 0 ∷ pos 0 ∷ pos 0 ∷ []) ∷ []);
}

-- its frame, worked out apart from these definitions
abbrev loud_frame : List ℕ
loud_frame =
    255 ∷ 255 ∷ 96 ∷ 129 ∷ 127 ∷ 145 ∷ 202 ∷ 112 ∷ 16 ∷ 131 ∷ 19 ∷ 243 ∷ 252 ∷ 0 ∷ 2 ∷ 70
    ∷ 158 ∷ 206 ∷ 17 ∷ 125 ∷ 127 ∷ 132 ∷ 95 ∷ 95 ∷ 225 ∷ 23 ∷ 215 ∷ 248 ∷ 69 ∷ 245 ∷ 254 ∷ 17
    ∷ 125 ∷ 127 ∷ 132 ∷ 95 ∷ 95 ∷ 225 ∷ 23 ∷ 215 ∷ 248 ∷ 69 ∷ 245 ∷ 254 ∷ 0 ∷ 0 ∷ 86 ∷ 111 ∷ []

-- what stands behind the sync, level and boundary
abbrev head : ℕ → ℕ → List Bool → List Bool
head level boundary s = bits 16 0xFFFF ++ (bits 9 level ++ (bits 7 boundary ++ s))

pub record Worked : Type 0 where
  -- five silent channels in 47 bits; the sixth's width would pass the end
  silent : scan (flat 5 1) (filled_fields (flat 5 1) (quiet 5)) ≡ accepted (quiet 5) 47
  sixth : scan (flat 6 1) (take 48 (fields (flat 6 1) (quiet 6))) ≡ faulty 13 47
  -- in bytes; with a bit turned; a wrong sync under a right check
  bytes : frame_of (flat 5 1) (quiet 5) ≡ 255 ∷ 255 ∷ 0 ∷ 0 ∷ 0 ∷ 0 ∷ 0 ∷ 216 ∷ []
  turned : strict (flat 5 1) (255 ∷ 255 ∷ 0 ∷ 0 ∷ 0 ∷ 1 ∷ 0 ∷ 216 ∷ []) ≡ faulty 8 0
  sync : strict (flat 5 1) (255 ∷ 254 ∷ 0 ∷ 0 ∷ 0 ∷ 0 ∷ 128 ∷ 163 ∷ []) ≡ faulty 9 0
  -- a pair written and read back; on a tie the width is 6, as one factor costs 9 bits at every width from 1 up
  stereo : frame_of pair loud ≡ loud_frame
  again : strict pair loud_frame ≡ accepted loud 351
  tie : scan (flat 1 1) (head 254 0 (bits 3 6 ++ (bits 6 5 ++ zeros 15))) ≡ accepted (lone 254 0 5 (replicate 8 (pos 0))) 49
  -- any head is taken (request A6): level 255; boundary 5 at level 0; the largest of both, also with codes at resolution 1
  level : strict (flat 1 1) (255 ∷ 255 ∷ 127 ∷ 128 ∷ 0 ∷ 0 ∷ 6 ∷ 204 ∷ []) ≡ accepted (headed 255 0 1) 35
  boundary : strict (flat 1 1) (255 ∷ 255 ∷ 0 ∷ 5 ∷ 0 ∷ 0 ∷ 0 ∷ 156 ∷ []) ≡ accepted (headed 0 5 1) 35
  largest : strict (flat 1 1) (255 ∷ 255 ∷ 255 ∷ 255 ∷ 0 ∷ 0 ∷ 0 ∷ 252 ∷ []) ≡ accepted (headed 511 127 1) 35
  coarsest : strict (flat 1 1) (255 ∷ 255 ∷ 255 ∷ 255 ∷ 194 ∷ 216 ∷ 0 ∷ 0 ∷ 0 ∷ 0 ∷ 90 ∷ 191 ∷ [])
      ≡ accepted (lone 511 127 5 (pos 1 ∷ negsuc 0 ∷ replicate 6 (pos 0))) 51
  -- noise is not below 0: factor 1 has resolution 15 at noise 0 alone
  finest : strict (flat 1 1) (255 ∷ 255 ∷ 0 ∷ 1 ∷ 192 ∷ 128 ∷ 16 ∷ 1 ∷ 0 ∷ 16 ∷ 1 ∷ 0 ∷ 16 ∷ 1 ∷ 0 ∷ 16 ∷ 1 ∷ 0 ∷ 236 ∷ 244 ∷ [])
      ≡ accepted (lone 0 1 1 (replicate 8 (pos 1))) 137
  -- width 7; a width on a coded count of 0; the second channel's, after its factor
  seven : scan (flat 1 1) (head 0 0 (bits 3 7 ++ zeros 13)) ≡ faulty 11 32
  uncoded : scan (flat 1 0) (head 0 0 (bits 3 6 ++ zeros 13)) ≡ faulty 11 32
  other : scan (flat 2 1) (head 0 0 (bits 3 0 ++ (bits 3 1 ++ (bits 6 5 ++ zeros 4)))) ≡ faulty 11 35
  -- a needless escape; factors 64 and -1
  needless : scan (flat 1 2) (head 0 0 (bits 3 1 ++ (bits 6 10 ++ (bits 1 1 ++ bits 6 10)))) ≡ faulty 12 41
  above : scan (flat 1 2) (head 0 0 (bits 3 2 ++ (bits 6 63 ++ (bits 2 2 ++ zeros 5)))) ≡ faulty 12 41
  below : scan (flat 1 2) (head 0 0 (bits 3 2 ++ (bits 6 0 ++ (bits 2 0 ++ zeros 5)))) ≡ faulty 12 41
  -- cut: the factor after an escape; a code's sign, at resolution 15
  escape : scan (flat 1 2) (head 0 0 (bits 3 1 ++ (bits 6 10 ++ (bits 1 1 ++ zeros 5)))) ≡ faulty 13 42
  sign : scan (flat 1 1) (head 0 0 (bits 3 6 ++ (bits 6 63 ++ bits 11 1))) ≡ faulty 13 41
  fill : scan (flat 1 1) (head 0 0 (bits 3 0 ++ bits 13 1)) ≡ faulty 14 47

pub worked_frames : Worked
unfolding strict is_sealed checksum frame_of pack bits_of fields filled_fields scan read_fields read_record kinds_of kind_at build group_count bands_per_group ceil_div
    width all_zero cheaper cost delta_cost later_cost near bits value number resolutions_of resolution_at resolution resolution_in held_position curve_position noise_at
    resolution_curve held_z code_bits read_code small_bits code_place magnitude_bits max_bit_table spectrum_bits spectrum_value strip one_of delta_bits delta_symbol
worked_frames = record {
  silent = refl;
  sixth = refl;
  bytes = refl;
  turned = refl;
  sync = refl;
  stereo = refl;
  again = refl;
  tie = refl;
  level = refl;
  boundary = refl;
  largest = refl;
  coarsest = refl;
  finest = refl;
  seven = refl;
  uncoded = refl;
  other = refl;
  needless = refl;
  above = refl;
  below = refl;
  escape = refl;
  sign = refl;
  fill = refl;
}

-- N = 100, total 117: g = 3, G = 6, and the last group reads band 117
module _ (l : Layout) (start : start_band l ≡ 100) (bands : l.total ≡ 117) where
  pub seventeen_groups : (bands_per_group l ≡ 3) × (group_count l ≡ 6)
  unfolding bands_per_group group_count ceil_div
  seventeen_groups = (rw (start, bands), rw (start, bands))

  pub past-total : (xs : List Float) → spectrum_average l xs 5 ≡ with_eight xs 117 128 (with_eight xs 116 128 (with_eight xs 115 128 no_average))
  unfolding spectrum_average group_average bands_taken bands_per_group ceil_div
  past-total xs = rw (start, bands)
