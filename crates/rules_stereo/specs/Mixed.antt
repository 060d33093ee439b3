-- Request A2, **Intensity stereo**: the energies of a pair, its intensities, and the mixed spectra. Each float step is rounded once.
use Rattle.std.specs.Prelude.{List, [], ◌∷◌, ◌++◌, map, Bool, true, false, cond, not, ◌&&◌, ℕ, zero, suc, ◌+◌, ◌-◌, ◌*◌, eqb, ltb, pos, Float, get_or, take, drop, set}
use Rattle.std.specs.Float.{nan, fin, binary32}
use Rattle.std.specs.Float.Ieee.{of_bits, add, mul, div, lt, le}
use Rattle.buffers.specs.Walk.{first_from}
use Rattle.floats.specs.Single.{add_abs, held_f, zero_f, one_f}
use Rattle.rules.specs.Layout.{kind_at}
use Rattle.rules.specs.declared.ChannelType.{ChannelType}
use Rattle.rules.specs.declared.ChannelType.TheVariants.{Discrete, StereoPrimary, StereoSecondary}
use Rattle.rules.specs.declared.Layout.{Layout}
use Rattle.rules_stereo.specs.declared.Energies.{Energies}
use Rattle.rules_stereo.specs.declared.Mixing.{Mixing}

-- INTENSITY_RATIO_BOUNDS; entries 0 and 13 are never read
unfoldable pub ratio_bounds : List Float
ratio_bounds =
    map (of_bits binary32)
    (0x3FF6DB6E ∷ 0x3FE49249 ∷ 0x3FD24925 ∷ 0x3FC00000 ∷ 0x3FADB6DB ∷ 0x3F9B6DB7 ∷ 0x3F892492 ∷
    0x3F6DB6DB ∷ 0x3F492492 ∷ 0x3F249249 ∷ 0x3F000000 ∷ 0x3EB6DB6E ∷ 0x3E5B6DB7 ∷ 0x3D924925 ∷ [])

abbrev pub two_f : Float
two_f = fin false 1 (pos 1)

-- the ends of the ratio: 0.5, and SQRT_2 / 2
abbrev pub low_ratio : Float
low_ratio = of_bits binary32 0x3F000000

abbrev pub high_ratio : Float
high_ratio = of_bits binary32 0x3F3504F3

-- ONE SUBFRAME OF A PAIR: xs are the pair's 2,048 values, the left's 1,024 first; its mixed bands are the n from `at` on

-- band i's value on the left and on the right, and their sum
abbrev pub left_value : (xs : List Float) (i : ℕ) → Float
left_value xs i = get_or xs i nan

abbrev pub right_value : (xs : List Float) (i : ℕ) → Float
right_value xs i = get_or xs (1024 + i) nan

abbrev pub both_values : (xs : List Float) (i : ℕ) → Float
both_values xs i = add binary32 (left_value xs i) (right_value xs i)

-- the sum of n magnitudes, rising, from +0.0
unfoldable pub loudness : (f : ℕ → Float) (n : ℕ) → Float
loudness f zero = zero_f
loudness f (suc n) = add_abs (loudness f n) (f n)

-- the energies; the total is doubled at the end
unfoldable pub energies : (xs : List Float) (at n : ℕ) → Energies
energies xs at n = record {
  left = loudness (λ b. left_value xs (at + b)) n;
  right = loudness (λ b. right_value xs (at + b)) n;
  total = mul binary32 (loudness (λ b. both_values xs (at + b)) n) two_f;
}

unfoldable pub combined_of : (e : Energies) → Float
combined_of e = add binary32 e.left e.right

-- what the intensity is found by
unfoldable pub stored_of : (e : Energies) → Float
stored_of e = div binary32 (mul binary32 two_f e.left) (combined_of e)

-- 1, and one more while it is below 13 and its bound is at least what is stored
unfoldable pub bound_of : (stored : Float) → ℕ
bound_of stored = first_from (λ v. not (le stored (get_or ratio_bounds v nan))) 1 12

-- 0 for a silent pair
unfoldable pub intensity_of : (e : Energies) → ℕ
intensity_of e = cond (le (combined_of e) zero_f) 0 (bound_of (stored_of e))

-- combined / total held within its ends; 1.0 for a silent pair, and where the total is not above 0
unfoldable pub ratio_of : (e : Energies) → Float
ratio_of e =
    cond (le (combined_of e) zero_f) one_f
    (cond (lt zero_f e.total) (held_f low_ratio high_ratio (div binary32 (combined_of e) e.total)) one_f)

unfoldable pub mixing_of : (e : Energies) → Mixing
mixing_of e = record { value = intensity_of e; ratio = ratio_of e }

-- band i mixed: left = (x + y) x ratio, two roundings, right = +0.0; and n bands, rising
unfoldable pub band_mixed : (ratio : Float) (i : ℕ) (xs : List Float) → List Float
band_mixed ratio i xs = set (set xs i (mul binary32 (both_values xs i) ratio)) (1024 + i) zero_f

unfoldable pub bands_mixed : (ratio : Float) (at n : ℕ) (xs : List Float) → List Float
bands_mixed ratio at zero xs = xs
bands_mixed ratio at (suc n) xs = band_mixed ratio (at + n) (bands_mixed ratio at n xs)

-- A PAIR, AND ALL CHANNELS: spectra with intensities. Of a pair the intensities are the right's eight

pub record Signal : Type 0 where
  pub spectra : List Float
  pub intensities : List ℕ

abbrev pub signal : (spectra : List Float) (intensities : List ℕ) → Signal
signal spectra intensities = record { spectra = spectra; intensities = intensities }

-- subframe s: bands base to total - 1
unfoldable pub energies_at : (l : Layout) (s : ℕ) (xs : List Float) → Energies
energies_at l s xs = energies xs (s * 128 + l.base) (l.total - l.base)

unfoldable pub subframe_mixed : (l : Layout) (s : ℕ) (p : Signal) → Signal
subframe_mixed l s p =
    let e = energies_at l s p.spectra in
    signal (bands_mixed (ratio_of e) (s * 128 + l.base) (l.total - l.base) p.spectra) (set p.intensities s (intensity_of e))

unfoldable pub subframes_mixed : (l : Layout) (n : ℕ) (p : Signal) → Signal
subframes_mixed l zero p = p
subframes_mixed l (suc n) p = subframe_mixed l n (subframes_mixed l n p)

-- a list whose n elements from `at` on are new
abbrev pub put_back : {A : Type 0} (at n : ℕ) (new old : List A) → List A
put_back at n new old = take at old ++ (new ++ drop n (drop at old))

-- channel c and the next, as a pair
abbrev pub pair_at : (c : ℕ) (t : Signal) → Signal
pair_at c t = signal (take 2048 (drop (c * 1024) t.spectra)) (take 8 (drop ((c + 1) * 8) t.intensities))

unfoldable pub pair_mixed : (l : Layout) (c : ℕ) (t : Signal) → Signal
pair_mixed l c t =
    let p = subframes_mixed l 8 (pair_at c t) in
    signal (put_back (c * 1024) 2048 p.spectra t.spectra) (put_back ((c + 1) * 8) 8 p.intensities t.intensities)

abbrev pub is_primary : (kind : ChannelType) → Bool
is_primary Discrete = false
is_primary StereoPrimary = true
is_primary StereoSecondary = false

-- channel c is mixed with the next: it is a primary that has a next, of whatever kind
unfoldable pub paired_at : (l : Layout) (c : ℕ) → Bool
paired_at l c = is_primary (kind_at l c) && ltb (c + 1) l.channels

-- the first n channels, in order: a primary after a primary is zeroed before its own pair is mixed
unfoldable pub channel_mixed : (l : Layout) (c : ℕ) (t : Signal) → Signal
channel_mixed l c t = cond (paired_at l c) (pair_mixed l c t) t

unfoldable pub channels_mixed : (l : Layout) (n : ℕ) (t : Signal) → Signal
channels_mixed l zero t = t
channels_mixed l (suc n) t = channel_mixed l n (channels_mixed l n t)

-- nothing is mixed where there are no stereo bands
unfoldable pub mixed : (l : Layout) (t : Signal) → Signal
mixed l t = cond (eqb l.stereo 0) t (channels_mixed l l.channels t)
