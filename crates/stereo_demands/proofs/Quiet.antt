-- Mixing, band by band: the bands that are yet to be mixed are within 65,536, and all are within twice that. Assumes nothing.
use mathlib.Core.Path.{◌≡◌, refl, sym, ◌∙◌, subst}
use mathlib.Core.List.{List}
use mathlib.Core.Bool.{Bool, true, false, cond}
use Prim.Native.Nat.{ℕ, zero, suc, ◌+◌, ◌-◌, ◌*◌, ◌^◌, ◌≤◌, ◌<◌, zero-le}
use native.Mathlib.Nat.{mul-le-mul_right, suc-mul}
use native.Mathlib.Omega.{arith}
use lib.Dec.{T, leb→le, ltb, ltb→lt}
use lib.Ieee.{Float, nan, binary32, mul}
use lib.Ieee.Fits.{and_r}
use lib.ListN.{length, get_or, set, drop, length-set, length-drop}
use lib.Seq.{get_or-set_other, get_or-take, get_or-drop, length-take-le}
use Rattle.floats.specs.Single.{zero_f}
use Rattle.rules.specs.Layout.{LegalLayout, spectrum_length, kind_at}
use Rattle.rules_stereo.specs.Mixed.{Signal, two_f, left_value, right_value, both_values, loudness, energies, energies_at, ratio_of, band_mixed, bands_mixed}
use Rattle.rules_stereo.specs.Mixed.{subframe_mixed, subframes_mixed, put_back, pair_at, pair_mixed, is_primary, paired_at, channel_mixed, channels_mixed}
use Rattle.rules.specs.declared.Layout.{Layout}
use Rattle.stereo_demands.proofs.PutBack.{set_keeps, put_back-length, put_back-at}
use Rattle.stereo_demands.proofs.UpTo.{UpTo, wider, whole-small, whole_double, add-within, mul-within}
use Rattle.stereo_demands.proofs.Ratio.{Fine, loudness-within, ratio_within}

abbrev pub limit : ℕ
limit = 65536

-- from place k on
pub record QuietFrom (k : ℕ) (xs : List Float) : Type 0 where
  pub all : (i : ℕ) → i < length xs → UpTo (2 * limit) (get_or xs i nan)
  pub rest : (i : ℕ) → k ≤ i → i < length xs → UpTo limit (get_or xs i nan)

pub later : (k j : ℕ) (xs : List Float) → k ≤ j → QuietFrom k xs → QuietFrom j xs
later k j xs h a = record { all = a.all; rest = λ i p q. a.rest i (omega arith) q }

-- ---- one band, and several
pub band-length : (ratio : Float) (i : ℕ) (xs : List Float) → length (band_mixed ratio i xs) ≡ length xs
unfolding band_mixed
band-length ratio i xs = simp length-set

pub bands-length : (ratio : Float) (at n : ℕ) (xs : List Float) → length (bands_mixed ratio at n xs) ≡ length xs
unfolding bands_mixed
bands-length ratio at zero xs = refl
bands-length ratio at (suc n) xs = band-length ratio (at + n) (bands_mixed ratio at n xs) ∙ bands-length ratio at n xs

module _ (k : ℕ) (xs : List Float) (small : k < 1024) (e : length xs ≡ 2048) (a : QuietFrom k xs) where
  pub both-within : UpTo (2 * limit) (both_values xs k)
  both-within = add-within limit limit (left_value xs k) (right_value xs k) (whole-small (2 * limit) (leb→le _ _ tt)) (a.rest k (omega arith) (omega arith))
      (a.rest (1024 + k) (omega arith) (omega arith))

  module _ (ratio : Float) (r : UpTo 1 ratio) where
    mixed-within : UpTo (2 * limit) (mul binary32 (both_values xs k) ratio)
    mixed-within = mul-within (2 * limit) 1 (both_values xs k) ratio (whole-small (2 * limit) (leb→le _ _ tt)) both-within r

    band-ahead : QuietFrom (suc k) (band_mixed ratio k xs)
    unfolding band_mixed
    band-ahead = record {
      all = λ i h. set_keeps nan (UpTo (2 * limit)) (set xs k (mul binary32 (both_values xs k) ratio)) (1024 + k) i zero_f zero-le
          (set_keeps nan (UpTo (2 * limit)) xs k i (mul binary32 (both_values xs k) ratio) mixed-within (a.all i (simp length-set at h)));
      rest = λ i p h.
          set_keeps nan (UpTo limit) (set xs k (mul binary32 (both_values xs k) ratio)) (1024 + k) i zero_f zero-le
          (subst (UpTo limit) (sym (get_or-set_other xs k i (mul binary32 (both_values xs k) ratio) nan (λ q. omega arith)))
          (a.rest i (omega arith) (simp length-set at h)));
    }

pub bands-ahead : (ratio : Float) (at n : ℕ) (xs : List Float) → at + n ≤ 1024 → length xs ≡ 2048 → UpTo 1 ratio → QuietFrom at xs
    → QuietFrom (at + n) (bands_mixed ratio at n xs)
unfolding bands_mixed
bands-ahead ratio at zero xs h e r a = later at (at + 0) xs (omega arith) a
bands-ahead ratio at (suc n) xs h e r a =
    later (suc (at + n)) (at + suc n) _ (omega arith)
    (band-ahead (at + n) (bands_mixed ratio at n xs) (omega arith) (bands-length ratio at n xs ∙ e) (bands-ahead ratio at n xs (omega arith) e r a) ratio r)

-- ---- the energies
abbrev pub half : ℕ
half = 2 ^ 23

module _ (xs : List Float) (at n : ℕ) (few : n ≤ 128) (h : at + n ≤ 1024) (e : length xs ≡ 2048) (a : QuietFrom at xs) where
  loud-left : UpTo half (loudness (λ b. left_value xs (at + b)) n)
  loud-left =
      let f : ℕ → Float = λ b. left_value xs (at + b) in
      wider (n * limit) half (loudness f n) (omega arith) (loudness-within f limit n (omega arith) (λ b p. a.rest (at + b) (omega arith) (omega arith)))

  loud_right : UpTo half (loudness (λ b. right_value xs (at + b)) n)
  loud_right =
      let f : ℕ → Float = λ b. right_value xs (at + b) in
      wider (n * limit) half (loudness f n) (omega arith)
      (loudness-within f limit n (omega arith) (λ b p. a.rest (1024 + (at + b)) (omega arith) (omega arith)))

  loud-both : UpTo (2 ^ 24) (loudness (λ b. both_values xs (at + b)) n)
  loud-both =
      let f : ℕ → Float = λ b. both_values xs (at + b) in
      wider (n * (2 * limit)) (2 ^ 24) (loudness f n) (omega arith)
      (loudness-within f (2 * limit) n (omega arith) (λ b p. both-within (at + b) xs (omega arith) e (later at (at + b) xs (omega arith) a)))

  pub energies-fine : Fine half (energies xs at n)
  unfolding energies
  energies-fine = record {
    left = loud-left;
    right = loud_right;
    total = mul-within (2 ^ 24) 2 (loudness (λ b. both_values xs (at + b)) n) two_f whole_double loud-both (leb→le 2 2 tt);
  }

  pub energies_ratio : UpTo 1 (ratio_of (energies xs at n))
  energies_ratio = ratio_within half (energies xs at n) (leb→le _ _ tt) energies-fine

-- ---- a pair's subframes
module _ (l : Layout) (sizes : LegalLayout l) where
  -- a subframe's bands lie in its 128
  subframe_fits : (s : ℕ) → s < 8 → s * 128 + l.base + (l.total - l.base) ≤ s * 128 + 128
  subframe_fits s h = omega (arith, sizes.start, sizes.bands)

  pub subframe_length : (s : ℕ) (p : Signal) → length (subframe_mixed l s p).spectra ≡ length p.spectra
  unfolding subframe_mixed
  subframe_length s p = bands-length _ _ _ _

  pub subframes_length : (n : ℕ) (p : Signal) → length (subframes_mixed l n p).spectra ≡ length p.spectra
  unfolding subframes_mixed
  subframes_length zero p = refl
  subframes_length (suc n) p = subframe_length n (subframes_mixed l n p) ∙ subframes_length n p

  module _ (s : ℕ) (h : s < 8) (xs : List Float) (e : length xs ≡ 2048) (a : QuietFrom (s * 128) xs) where
    pub at-fine : Fine half (energies_at l s xs)
    unfolding energies_at
    at-fine =
        energies-fine xs (s * 128 + l.base) (l.total - l.base) (omega (arith, sizes.bands)) (omega (arith, subframe_fits s h)) e
        (later (s * 128) (s * 128 + l.base) xs (omega arith) a)

    at_ratio : UpTo 1 (ratio_of (energies_at l s xs))
    at_ratio = ratio_within half (energies_at l s xs) (leb→le _ _ tt) at-fine

  subframe_ahead : (s : ℕ) (p : Signal) → s < 8 → length p.spectra ≡ 2048 → QuietFrom (s * 128) p.spectra
      → QuietFrom (suc s * 128) (subframe_mixed l s p).spectra
  unfolding subframe_mixed
  subframe_ahead s p h e a =
      later (s * 128 + l.base + (l.total - l.base)) (suc s * 128) _ (omega (arith, subframe_fits s h, suc-mul s 128))
      (bands-ahead (ratio_of (energies_at l s p.spectra)) (s * 128 + l.base) (l.total - l.base) p.spectra (omega (arith, subframe_fits s h)) e
      (at_ratio s h p.spectra e a)
      (later (s * 128) (s * 128 + l.base) p.spectra (omega arith) a))

  pub subframes_ahead : (n : ℕ) (p : Signal) → n ≤ 8 → length p.spectra ≡ 2048 → QuietFrom 0 p.spectra
      → QuietFrom (n * 128) (subframes_mixed l n p).spectra
  unfolding subframes_mixed
  subframes_ahead zero p h e a = later 0 (0 * 128) p.spectra zero-le a
  subframes_ahead (suc n) p h e a = subframe_ahead n (subframes_mixed l n p) (omega arith) (subframes_length n p ∙ e) (subframes_ahead n p (omega arith) e a)

-- ---- channels
module _ (l : Layout) (sizes : LegalLayout l) (c : ℕ) (t : Signal) (e : length t.spectra ≡ spectrum_length l) (q : c + 1 < l.channels) where
  pub pair_fits : c * 1024 + 2048 ≤ length t.spectra
  pair_fits = omega (arith, e, mul-le-mul_right 1024 (le-two q))
    where
      le-two : c + 1 < l.channels → c + 2 ≤ l.channels
      le-two h = omega arith

  pub pair-length : length (pair_at c t).spectra ≡ 2048
  pair-length = length-take-le 2048 (drop (c * 1024) t.spectra) (omega (arith, pair_fits, length-drop (c * 1024) t.spectra))

  module _ (a : QuietFrom (c * 1024) t.spectra) where
    pub pair-ahead : QuietFrom 0 (pair_at c t).spectra
    pair-ahead =
        let small : (i : ℕ) → i < length (pair_at c t).spectra → UpTo limit (get_or (pair_at c t).spectra i nan) = λ i h.
        subst (UpTo limit) (sym (get_or-take 2048 (drop (c * 1024) t.spectra) i nan (omega (arith, pair-length)) ∙ get_or-drop (c * 1024) t.spectra i nan))
        (a.rest (c * 1024 + i) (omega arith) (omega (arith, pair_fits, pair-length))) in
        record { all = λ i h. wider limit (2 * limit) (get_or (pair_at c t).spectra i nan) (leb→le _ _ tt) (small i h); rest = λ i p h. small i h }

    abbrev after : Signal
    after = subframes_mixed l 8 (pair_at c t)

    after-length : length after.spectra ≡ 2048
    after-length = subframes_length l sizes 8 (pair_at c t) ∙ pair-length

    after-ahead : QuietFrom 1024 after.spectra
    after-ahead = subframes_ahead l sizes 8 (pair_at c t) (leb→le 8 8 tt) pair-length pair-ahead

    pub paired-length : length (pair_mixed l c t).spectra ≡ length t.spectra
    unfolding pair_mixed
    paired-length = put_back-length (c * 1024) 2048 after.spectra t.spectra pair_fits after-length

    pub paired-ahead : QuietFrom (suc c * 1024) (pair_mixed l c t).spectra
    unfolding pair_mixed
    paired-ahead = record {
      all = λ i h.
          put_back-at nan (c * 1024) 2048 after.spectra t.spectra pair_fits after-length (UpTo (2 * limit)) i
          (λ p. a.all i (long i h))
          (λ j ej p. after-ahead.all j (omega (arith, after-length)))
          (λ p. a.all i (long i h));
      rest = λ i k h.
          put_back-at nan (c * 1024) 2048 after.spectra t.spectra pair_fits after-length (UpTo limit) i
          (λ p. absurd (omega (arith, suc-mul c 1024)))
          (λ j ej p. after-ahead.rest j (omega (arith, suc-mul c 1024)) (omega (arith, after-length)))
          (λ p. a.rest i (omega (arith, suc-mul c 1024)) (long i h));
    }
      where
        long : (i : ℕ) → i < length (put_back (c * 1024) 2048 after.spectra t.spectra) → i < length t.spectra
        long i h = omega (arith, put_back-length (c * 1024) 2048 after.spectra t.spectra pair_fits after-length)

-- a channel that is paired has a next one
pub has_next : (l : Layout) (c : ℕ) → T (paired_at l c) → c + 1 < l.channels
unfolding paired_at
has_next l c h = ltb→lt (c + 1) l.channels (and_r (is_primary (kind_at l c)) (ltb (c + 1) l.channels) h)

module _ (l : Layout) (sizes : LegalLayout l) where
  channel_ahead : (c : ℕ) (t : Signal) → length t.spectra ≡ spectrum_length l → QuietFrom (c * 1024) t.spectra
      → (length (channel_mixed l c t).spectra ≡ spectrum_length l) × QuietFrom (suc c * 1024) (channel_mixed l c t).spectra
  unfolding channel_mixed
  channel_ahead c t e a = go (paired_at l c) (has_next l c)
    where
      go : (b : Bool) → (T b → c + 1 < l.channels)
          → (length (cond b (pair_mixed l c t) t).spectra ≡ spectrum_length l) × QuietFrom (suc c * 1024) (cond b (pair_mixed l c t) t).spectra
      go true f = (paired-length l sizes c t e (f tt) a ∙ e, paired-ahead l sizes c t e (f tt) a)
      go false f = (e, later (c * 1024) (suc c * 1024) t.spectra (omega (arith, suc-mul c 1024)) a)

  pub channels-ahead : (n : ℕ) (t : Signal) → length t.spectra ≡ spectrum_length l → QuietFrom 0 t.spectra
      → (length (channels_mixed l n t).spectra ≡ spectrum_length l) × QuietFrom (n * 1024) (channels_mixed l n t).spectra
  unfolding channels_mixed
  channels-ahead zero t e a = (e, later 0 (0 * 1024) t.spectra zero-le a)
  channels-ahead (suc n) t e a =
      let (el, ea) = channels-ahead n t e a in
      channel_ahead n (channels_mixed l n t) el ea
