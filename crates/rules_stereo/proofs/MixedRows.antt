-- Request A2's worked examples, by computation. Assumes nothing.
use mathlib.Core.Path.{◌≡◌, refl}
use mathlib.Core.Bool.{true, false}
use mathlib.Core.List.{List, [], ◌∷◌, ◌++◌, map}
use Prim.Native.Nat.{ℕ, ◌+◌}
use lib.Ieee.{Float, nan, binary32, of_bits, to_bits, add, mul, div, lt, le, round}
use lib.ListN.{length, get_or, set, replicate}
use Rattle.buffers.specs.Walk.{first_from}
use Rattle.floats.specs.Single.{abs_f, held_f, zero_f}
use Rattle.rules.specs.Layout.{kind_at}
use Rattle.rules_stereo.specs.Mixed.{ratio_bounds, Signal, signal, loudness, energies, combined_of, stored_of, bound_of, intensity_of}
use Rattle.rules_stereo.specs.Mixed.{ratio_of, band_mixed}
use Rattle.rules_stereo.specs.Mixed.{bands_mixed, energies_at, subframe_mixed, subframes_mixed, pair_mixed, paired_at, channel_mixed, channels_mixed, mixed}
use Rattle.rules_stereo.specs.Stereo.{too_loud, stereo_outcome, stereo_left, with_signal, signal_overwrite}
use lib.IntN.{ℤ}
use Rattle.rules.specs.Lent.{overwrite}
use Rattle.rules.specs.Refusals.{refused}
use Rattle.rules.specs.Stage.{StageLeft}
use Rattle.rules.specs.declared.ChannelType.{ChannelType}
use Rattle.rules.specs.declared.ChannelType.TheVariants.{Discrete, StereoPrimary, StereoSecondary}
use Rattle.std.specs.Prelude.{Result, Err}
use Rattle.rules.specs.declared.Delivery.{Delivery}
use Rattle.rules_stereo.specs.declared.StereoRefusal.{StereoRefusal}
use Rattle.rules_stereo.specs.declared.StereoRefusal.TheVariants.{TooLoud}
use Rattle.rules.specs.declared.Mode.TheVariants.{Rust}
use Rattle.rules.specs.declared.Layout.{Layout}
use Rattle.rules_stereo.specs.declared.Energies.{Energies}

abbrev float : ℕ → Float
float bits = of_bits binary32 bits

-- left, right and total; value and ratio
abbrev row : ℕ → ℕ → ℕ → ℕ × ℕ
row left right total =
    let e : Energies = record { left = float left; right = float right; total = float total } in
    (intensity_of e, to_bits binary32 (ratio_of e))

pub mixing_rows :
    row 0x3FA00000 0x3F000000 0x40200000 ∷ row 0x40400000 0x3F800000 0x41000000 ∷ row 0x3F800000 0x3F800000 0x3F800000 ∷ row 0x3F800000 0x3F800000 0
    ∷ row 0x3F800000 0 0x40000000 ∷ row 0 0x3F800000 0x40000000 ∷ row 0 0 0 ∷ []
    ≡ (4, 0x3F333333) ∷ (4, 0x3F000000) ∷ (7, 0x3F3504F3) ∷ (7, 0x3F800000) ∷ (1, 0x3F000000) ∷ (13, 0x3F000000) ∷ (0, 0x3F800000) ∷ []
unfolding of_bits to_bits add mul div lt le round held_f ratio_bounds first_from combined_of stored_of bound_of intensity_of ratio_of
mixing_rows = refl

-- two primaries and a secondary, bands 1 and 2
abbrev three : Layout
three = record {
  channels = 3;
  kinds = record { kind = StereoPrimary } ∷ record { kind = StereoPrimary } ∷ record { kind = StereoSecondary } ∷ [];
  base = 1;
  stereo = 1;
  total = 3;
  frame_size = 8;
  minimum = 1;
  maximum = 15;
  mode = Rust;
}

abbrev lent : Signal
lent =
    signal
    (set (set (set (set (set (set (replicate 3072 zero_f) 1 (float 0x3F800000)) 2 (float 0x40000000)) 1025 (float 0x40400000)) 1026 (float 0xBF800000)) 2049
    (float 0x3F000000)) 2050 (float 0x3E800000))
    (replicate 24 9)

abbrev seen : Signal → List ℕ
seen t = map (λ i. to_bits binary32 (get_or t.spectra i nan)) (0 ∷ 1 ∷ 2 ∷ 3 ∷ 1025 ∷ 1026 ∷ 2049 ∷ 2050 ∷ 3071 ∷ [])

pub three-spectra : seen (mixed three lent) ≡ 0 ∷ 0x40333333 ∷ 0x3F333333 ∷ 0 ∷ 0x3E800000 ∷ 0x3E000000 ∷ 0 ∷ 0 ∷ 0 ∷ []
unfolding of_bits to_bits add mul div lt le round abs_f held_f ratio_bounds first_from kind_at loudness energies combined_of stored_of bound_of intensity_of ratio_of
    band_mixed bands_mixed energies_at subframe_mixed subframes_mixed pair_mixed paired_at channel_mixed channels_mixed mixed
three-spectra = refl

pub three-intensities : (mixed three lent).intensities ≡ replicate 8 9 ++ (8 ∷ 0 ∷ 0 ∷ 0 ∷ 0 ∷ 0 ∷ 0 ∷ 0 ∷ 13 ∷ 0 ∷ 0 ∷ 0 ∷ 0 ∷ 0 ∷ 0 ∷ 0 ∷ [])
unfolding of_bits to_bits add mul div lt le round abs_f held_f ratio_bounds first_from kind_at loudness energies combined_of stored_of bound_of intensity_of ratio_of
    band_mixed bands_mixed energies_at subframe_mixed subframes_mixed pair_mixed paired_at channel_mixed channels_mixed mixed
three-intensities = refl

-- 65,536 is within the limit, with either sign, and the next float is not
pub limit-row : map (too_loud (map float (0x47800000 ∷ 0xC7800000 ∷ 0x47800001 ∷ 0xC7800001 ∷ []))) (0 ∷ 1 ∷ 2 ∷ 3 ∷ []) ≡ false ∷ false ∷ true ∷ true ∷ []
unfolding of_bits lt abs_f too_loud
limit-row = refl

-- what is stored at each bound that is read, 1 to 12, and one float above it
pub bound_row :
    map (λ x. bound_of (float x))
    (0x3FE49249 ∷ 0x3FE4924A ∷ 0x3FD24925 ∷ 0x3FD24926 ∷ 0x3FC00000 ∷ 0x3FC00001 ∷ 0x3FADB6DB ∷ 0x3FADB6DC ∷ 0x3F9B6DB7 ∷ 0x3F9B6DB8 ∷ 0x3F892492 ∷ 0x3F892493
    ∷ 0x3F6DB6DB ∷ 0x3F6DB6DC ∷ 0x3F492492 ∷ 0x3F492493 ∷ 0x3F249249 ∷ 0x3F24924A ∷ 0x3F000000 ∷ 0x3F000001 ∷ 0x3EB6DB6E ∷ 0x3EB6DB6F ∷ 0x3E5B6DB7
    ∷ 0x3E5B6DB8 ∷ [])
    ≡ 2 ∷ 1 ∷ 3 ∷ 2 ∷ 4 ∷ 3 ∷ 5 ∷ 4 ∷ 6 ∷ 5 ∷ 7 ∷ 6 ∷ 8 ∷ 7 ∷ 9 ∷ 8 ∷ 10 ∷ 9 ∷ 11 ∷ 10 ∷ 12 ∷ 11 ∷ 13 ∷ 12 ∷ []
unfolding of_bits le ratio_bounds first_from bound_of
bound_row = refl

-- a Discrete channel, a secondary, and a primary with none after it: nothing is mixed; nor is it where there are no stereo bands
abbrev shaped : (first second third : ChannelType) (stereo : ℕ) → Layout
shaped first second third stereo = record {
  channels = 3;
  kinds = record { kind = first } ∷ record { kind = second } ∷ record { kind = third } ∷ [];
  base = 1;
  stereo = stereo;
  total = 3;
  frame_size = 8;
  minimum = 1;
  maximum = 15;
  mode = Rust;
}

pub not-mixed :
    (mixed (shaped Discrete StereoSecondary StereoPrimary 1) lent ≡ lent) × (mixed (shaped StereoPrimary StereoSecondary StereoPrimary 0) lent ≡ lent)
unfolding kind_at paired_at channel_mixed channels_mixed mixed
not-mixed = (refl, refl)

-- every subframe by itself: values in bands 1 and 2 of subframes 3 and 7 of the last pair; bands 0 and 3 keep their bits
abbrev late_lent : Signal
late_lent =
    signal
    (set (set (set (set (set (set (replicate 3072 zero_f) 1409 (float 0x3F800000)) 1922 (float 0x40000000)) 2433 (float 0x40400000)) 2946 (float 0xBF800000))
    1408 (float 0x3F000000)) 2435 (float 0x3E800000))
    (replicate 24 9)

abbrev late_seen : Signal → List ℕ
late_seen t = map (λ i. to_bits binary32 (get_or t.spectra i nan)) (1408 ∷ 1409 ∷ 1922 ∷ 2433 ∷ 2435 ∷ 2946 ∷ [])

pub late_mixed :
    (late_seen (mixed (shaped Discrete StereoPrimary StereoSecondary 1) late_lent) ≡ 0x3F000000 ∷ 0x40000000 ∷ 0x3F3504F3 ∷ 0 ∷ 0x3E800000 ∷ 0 ∷ [])
    × ((mixed (shaped Discrete StereoPrimary StereoSecondary 1) late_lent).intensities ≡ replicate 16 9 ++ (0 ∷ 0 ∷ 0 ∷ 11 ∷ 0 ∷ 0 ∷ 0 ∷ 5 ∷ []))
unfolding of_bits to_bits add mul div lt le round abs_f held_f ratio_bounds first_from kind_at loudness energies combined_of stored_of bound_of intensity_of ratio_of
    band_mixed bands_mixed energies_at subframe_mixed subframes_mixed pair_mixed paired_at channel_mixed channels_mixed mixed
late_mixed = (refl, refl)

-- 17 is the number of what is too loud
pub loud-number : stereo_outcome (Err TooLoud) ≡ refused 17 0
unfolding stereo_outcome
loud-number = refl

-- each buffer is left under its own name
pub left_names : (a : Result Delivery StereoRefusal) (spectra : List Float) (intensities : List ℕ) (scaled : List Float) (codes : List ℤ) (factors side frame : List ℕ)
    → let x = stereo_left a spectra intensities scaled codes factors side frame in
    (x.outcome ≡ stereo_outcome a) × (x.spectra ≡ spectra) × (x.intensities ≡ intensities) × (x.scaled ≡ scaled) × (x.codes ≡ codes)
    × (x.factors ≡ factors) × (x.side ≡ side) × (x.frame ≡ frame)
left_names a spectra intensities scaled codes factors side frame = (refl, refl, refl, refl, refl, refl, refl, refl)

-- below 0.5, within the ends, and above SQRT_2 / 2
pub ratio_ends : row 0x3F800000 0x3F800000 0x41000000 ∷ row 0x3F800000 0x3F800000 0x40400000 ∷ row 0x3F800000 0x3F800000 0x40200000 ∷ []
    ≡ (7, 0x3F000000) ∷ (7, 0x3F2AAAAB) ∷ (7, 0x3F3504F3) ∷ []
unfolding of_bits to_bits add mul div lt le round held_f ratio_bounds first_from combined_of stored_of bound_of intensity_of ratio_of
ratio_ends = refl

-- the Rust's fourteen bounds: its first and its last, which are never read
pub bounds_ends : (map (λ v. to_bits binary32 (get_or ratio_bounds v nan)) (0 ∷ 13 ∷ []) ≡ 0x3FF6DB6E ∷ 0x3D924925 ∷ []) × (length ratio_bounds ≡ 14)
unfolding of_bits to_bits ratio_bounds
bounds_ends = (refl, refl)

-- what the stage left beside a signal, and a signal laid over a longer one
pub with_names : (s : Signal) (x : StageLeft) → let y = with_signal s x in
    (y.outcome ≡ x.outcome) × (y.spectra ≡ s.spectra) × (y.intensities ≡ s.intensities) × (y.scaled ≡ x.scaled) × (y.codes ≡ x.codes)
    × (y.factors ≡ x.factors) × (y.side ≡ x.side) × (y.frame ≡ x.frame)
with_names s x = (refl, refl, refl, refl, refl, refl, refl, refl)

pub laid_names : (new old : Signal) → let y = signal_overwrite new old in
    (y.spectra ≡ overwrite new.spectra old.spectra) × (y.intensities ≡ overwrite new.intensities old.intensities)
laid_names new old = (refl, refl)

-- no energies, and a total: a silent pair
pub silent-row : row 0 0 0x3F800000 ≡ (0, 0x3F800000)
unfolding of_bits to_bits add mul div lt le round held_f ratio_bounds first_from combined_of stored_of bound_of intensity_of ratio_of
silent-row = refl

-- bands 1 to 3, of base 1, stereo 2 and total 4: subframe 3 has 0.5, 1, 0, 2, 4 on the left and 0, -5, 0, 0, 1 on the right
abbrev four : Layout
four = record { channels = 2; kinds = []; base = 1; stereo = 2; total = 4; frame_size = 8; minimum = 1; maximum = 15; mode = Rust }

abbrev four_lent : List Float
four_lent =
    replicate 384 zero_f ++ (map float (0x3F000000 ∷ 0x3F800000 ∷ 0 ∷ 0x40000000 ∷ 0x40800000 ∷ []) ++ (replicate 1019 zero_f
    ++ (map float (0 ∷ 0xC0A00000 ∷ 0 ∷ 0 ∷ 0x3F800000 ∷ []) ++ replicate 635 zero_f)))

abbrev four_mixed : Signal
four_mixed = subframe_mixed four 3 (signal four_lent (replicate 8 5))

abbrev energies_seen : Energies → List ℕ
energies_seen e = map (to_bits binary32) (e.left ∷ e.right ∷ e.total ∷ [])

abbrev four_seen : Signal → List ℕ
four_seen p = map (λ i. to_bits binary32 (get_or p.spectra i nan)) (384 ∷ 385 ∷ 386 ∷ 387 ∷ 388 ∷ 1408 ∷ 1409 ∷ 1410 ∷ 1411 ∷ 1412 ∷ [])

-- energies 3, 5 and 12, a ratio of 2/3, intensity 9; bands 0 and 4 keep their bits
pub bands-row :
    (energies_seen (energies_at four 3 four_lent) ≡ 0x40400000 ∷ 0x40A00000 ∷ 0x41400000 ∷ [])
    × (four_seen four_mixed ≡ 0x3F000000 ∷ 0xC02AAAAB ∷ 0 ∷ 0x3FAAAAAB ∷ 0x40800000 ∷ 0 ∷ 0 ∷ 0 ∷ 0 ∷ 0x3F800000 ∷ [])
    × (four_mixed.intensities ≡ 5 ∷ 5 ∷ 5 ∷ 9 ∷ 5 ∷ 5 ∷ 5 ∷ 5 ∷ [])
unfolding of_bits to_bits add mul div lt le round abs_f held_f ratio_bounds first_from loudness energies combined_of stored_of bound_of intensity_of ratio_of band_mixed
    bands_mixed energies_at subframe_mixed
bands-row = (refl, refl, refl)

-- subframe 0 begins at band 1 and has two bands, not the other way round: energies 3, 4 and 10, a ratio of 0.7, both bands mixed
pub order_row :
    (energies_seen (energies_at three 0 lent.spectra) ≡ 0x40400000 ∷ 0x40800000 ∷ 0x41200000 ∷ [])
    × (map (λ i. to_bits binary32 (get_or (subframe_mixed three 0 lent).spectra i nan)) (1 ∷ 2 ∷ []) ≡ 0x40333333 ∷ 0x3F333333 ∷ [])
unfolding of_bits to_bits add mul div lt le round abs_f held_f ratio_bounds first_from loudness energies combined_of stored_of bound_of intensity_of ratio_of band_mixed
    bands_mixed energies_at subframe_mixed
order_row = (refl, refl)
