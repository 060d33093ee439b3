-- What mixing leaves alone, and what it makes of a pair's right: values that lie in no pair's bands keep their bits, intensities that no pair writes stay, and
-- the right is +0.0 from base to total. Assumes nothing.
use mathlib.Core.Path.{◌≡◌, refl, sym, ap, ◌∙◌, subst}
use mathlib.Core.List.{List}
use mathlib.Core.Bool.{Bool, true, false, cond}
use Prim.Native.Nat.{ℕ, zero, suc, ◌+◌, ◌-◌, ◌*◌, ◌≤◌, ◌<◌}
use native.Mathlib.Nat.{mul-le-mul_right}
use native.Mathlib.Omega.{arith}
use borrow.Author.Tests.{eqb-true}
use lib.Dec.{T, eqb}
use lib.Ieee.{Float, nan, binary32, mul}
use lib.ListN.{length, get_or, set, drop, length-set, length-drop}
use lib.Seq.{get_or-set_same, get_or-set_other, get_or-take, get_or-drop, length-take-le}
use Rattle.floats.specs.Single.{zero_f}
use Rattle.rules.specs.Layout.{LegalLayout, spectrum_length, side_length}
use Rattle.rules.specs.declared.Layout.{Layout}
use Rattle.rules.proofs.Cuts.{by_order}
use Rattle.rules_demands.proofs.FoundLevel.{not-both}
use Rattle.rules_stereo.specs.Mixed.{Signal, both_values, energies_at, ratio_of, band_mixed, bands_mixed, subframe_mixed, subframes_mixed, pair_at, pair_mixed}
use Rattle.rules_stereo.specs.Mixed.{paired_at, channel_mixed, channels_mixed, mixed}
use Rattle.stereo_demands.proofs.PutBack.{set_keeps, put_back-length, put_back-at}
use Rattle.stereo_demands.proofs.Quiet.{bands-length, subframes_length, pair_fits, pair-length, has_next}
use Rattle.stereo_demands.proofs.MixedJudged.{side_length_lem}

-- a channel that is paired has a next one
pub paired : (l : Layout) (c : ℕ) → paired_at l c ≡ true → c + 1 < l.channels
paired l c e = has_next l c (subst T (sym e) tt)

-- ---- one pair: what no band touches

-- place i is in no subframe's bands from base to total, whichever channel it is in
abbrev pub Off : (l : Layout) (i : ℕ) → Type 0
Off l i = (s j : ℕ) → j < l.total - l.base → i ≡ s * 128 + l.base + j → ⊥

bands_off : (ratio : Float) (at n : ℕ) (xs : List Float) (i : ℕ) → ((j : ℕ) → j < n → i ≡ at + j → ⊥) → ((j : ℕ) → j < n → i ≡ 1024 + (at + j) → ⊥)
    → get_or (bands_mixed ratio at n xs) i nan ≡ get_or xs i nan
unfolding bands_mixed band_mixed
bands_off ratio at zero xs i f g = refl
bands_off ratio at (suc n) xs i f g =
    let ys = bands_mixed ratio at n xs in
    let v = mul binary32 (both_values ys (at + n)) ratio in
    get_or-set_other (set ys (at + n) v) (1024 + (at + n)) i zero_f nan (g n (omega arith))
    ∙ get_or-set_other ys (at + n) i v nan (f n (omega arith))
    ∙ bands_off ratio at n xs i (λ j h. f j (omega arith)) (λ j h. g j (omega arith))

module _ (l : Layout) where
  subframes_off : (n : ℕ) (p : Signal) (i : ℕ) → Off l i → get_or (subframes_mixed l n p).spectra i nan ≡ get_or p.spectra i nan
  unfolding subframes_mixed subframe_mixed
  subframes_off zero p i o = refl
  subframes_off (suc n) p i o =
      bands_off (ratio_of (energies_at l n (subframes_mixed l n p).spectra)) (n * 128 + l.base) (l.total - l.base) (subframes_mixed l n p).spectra i
      (λ j h e. o n j h e) (λ j h e. o (n + 8) j h (omega arith))
      ∙ subframes_off n p i o

-- ---- one pair: its right

-- the right's value stays +0.0 once it is
bands-zero : (ratio : Float) (at n : ℕ) (xs : List Float) (i : ℕ) → at + n ≤ 1024 → 1024 ≤ i → get_or xs i nan ≡ zero_f
    → get_or (bands_mixed ratio at n xs) i nan ≡ zero_f
unfolding bands_mixed band_mixed
bands-zero ratio at zero xs i h g e = e
bands-zero ratio at (suc n) xs i h g e =
    let ys = bands_mixed ratio at n xs in
    let v = mul binary32 (both_values ys (at + n)) ratio in
    set_keeps nan (λ x. x ≡ zero_f) (set ys (at + n) v) (1024 + (at + n)) i zero_f refl
    (get_or-set_other ys (at + n) i v nan (λ q. omega arith) ∙ bands-zero ratio at n xs i (omega arith) g e)

-- and each band makes it so
bands_made : (ratio : Float) (at n : ℕ) (xs : List Float) (j : ℕ) → at + n ≤ 1024 → length xs ≡ 2048 → j < n
    → get_or (bands_mixed ratio at n xs) (1024 + (at + j)) nan ≡ zero_f
unfolding bands_mixed band_mixed
bands_made ratio at zero xs j h e g = absurd (omega arith)
bands_made ratio at (suc n) xs j h e g =
    let ys = bands_mixed ratio at n xs in
    let v = mul binary32 (both_values ys (at + n)) ratio in
    let long : length (set ys (at + n) v) ≡ 2048 = length-set ys (at + n) v ∙ bands-length ratio at n xs ∙ e in
    by_order j n
    (λ lt. set_keeps nan (λ x. x ≡ zero_f) (set ys (at + n) v) (1024 + (at + n)) (1024 + (at + j)) zero_f refl
    (get_or-set_other ys (at + n) (1024 + (at + j)) v nan (λ q. omega arith) ∙ bands_made ratio at n xs j (omega arith) e lt))
    (λ ge. let q : j ≡ n = omega arith in
    rw q (get_or-set_same (set ys (at + n) v) (1024 + (at + n)) zero_f nan (omega (arith, long))))

module _ (l : Layout) (sizes : LegalLayout l) where
  subframes_made : (n : ℕ) (p : Signal) (s b : ℕ) → n ≤ 8 → length p.spectra ≡ 2048 → s < n → l.base ≤ b → b < l.total
      → get_or (subframes_mixed l n p).spectra (1024 + (s * 128 + b)) nan ≡ zero_f
  unfolding subframes_mixed subframe_mixed
  subframes_made zero p s b h e g lo hi = absurd (omega arith)
  subframes_made (suc n) p s b h e g lo hi =
      let ys = (subframes_mixed l n p).spectra in
      let ratio = ratio_of (energies_at l n ys) in
      let room : n * 128 + l.base + (l.total - l.base) ≤ 1024 = omega (arith, sizes.bands) in
      by_order s n
      (λ lt. bands-zero ratio (n * 128 + l.base) (l.total - l.base) ys (1024 + (s * 128 + b)) room (omega arith)
      (subframes_made n p s b (omega arith) e lt lo hi))
      (λ ge. let q : s * 128 + b ≡ n * 128 + l.base + (b - l.base) = omega arith in
      rw q (bands_made ratio (n * 128 + l.base) (l.total - l.base) ys (b - l.base) room (subframes_length l sizes n p ∙ e) (omega arith)))

-- ---- all channels

module _ (l : Layout) (sizes : LegalLayout l) (c : ℕ) (t : Signal) (e : length t.spectra ≡ spectrum_length l) (q : c + 1 < l.channels) where
  abbrev both : List Float
  both = (subframes_mixed l 8 (pair_at c t)).spectra

  both-length : length both ≡ 2048
  both-length = subframes_length l sizes 8 (pair_at c t) ∙ pair-length l sizes c t e q

  pair-long : length (pair_mixed l c t).spectra ≡ length t.spectra
  unfolding pair_mixed
  pair-long = put_back-length (c * 1024) 2048 both t.spectra (pair_fits l sizes c t e q) both-length

  -- place i keeps its bits, unless it lies in the bands of the pair
  pair_off : (i : ℕ) → ((j : ℕ) → i ≡ c * 1024 + j → j < 2048 → Off l j) → get_or (pair_mixed l c t).spectra i nan ≡ get_or t.spectra i nan
  unfolding pair_mixed
  pair_off i o =
      put_back-at nan (c * 1024) 2048 both t.spectra (pair_fits l sizes c t e q) both-length (λ x. x ≡ get_or t.spectra i nan) i (λ _. refl)
      (λ j ej h. subframes_off l 8 (pair_at c t) j (o j ej h) ∙ get_or-take 2048 (drop (c * 1024) t.spectra) j nan h
      ∙ get_or-drop (c * 1024) t.spectra j nan ∙ ap (λ (k : ℕ). get_or t.spectra k nan) (sym ej))
      (λ _. refl)

  -- the right is +0.0 from base to total
  pair_made : (s b : ℕ) → s < 8 → l.base ≤ b → b < l.total → get_or (pair_mixed l c t).spectra ((c + 1) * 1024 + (s * 128 + b)) nan ≡ zero_f
  unfolding pair_mixed
  pair_made s b h lo hi =
      put_back-at nan (c * 1024) 2048 both t.spectra (pair_fits l sizes c t e q) both-length (λ x. x ≡ zero_f) ((c + 1) * 1024 + (s * 128 + b))
      (λ lt. absurd (omega arith))
      (λ j ej g. let z : j ≡ 1024 + (s * 128 + b) = omega arith in
      rw z (subframes_made l sizes 8 (pair_at c t) s b (omega arith) (pair-length l sizes c t e q) h lo hi))
      (λ ge. absurd (omega (arith, sizes.bands)))

module _ (l : Layout) (sizes : LegalLayout l) where
  -- channel c is mixed where it is paired
  by_paired : (P : Signal → Type 0) (c : ℕ) (t : Signal) → (paired_at l c ≡ true → P (pair_mixed l c t)) → (paired_at l c ≡ false → P t) → P (channel_mixed l c t)
  unfolding channel_mixed
  by_paired P c t f g = go (paired_at l c) refl
    where
      go : (b : Bool) → paired_at l c ≡ b → P (cond b (pair_mixed l c t) t)
      go true e = f e
      go false e = g e

  channels-long : (n : ℕ) (t : Signal) → length t.spectra ≡ spectrum_length l → length (channels_mixed l n t).spectra ≡ spectrum_length l
  unfolding channels_mixed
  channels-long zero t e = e
  channels-long (suc n) t e =
      let el = channels-long n t e in
      by_paired (λ x. length x.spectra ≡ spectrum_length l) n (channels_mixed l n t)
      (λ p. pair-long l sizes n (channels_mixed l n t) el (paired l n p) ∙ el) (λ _. el)

  -- place i lies in no pair's bands
  abbrev pub NoPairs : (i : ℕ) → Type 0
  NoPairs i = (c : ℕ) → paired_at l c ≡ true → (j : ℕ) → i ≡ c * 1024 + j → j < 2048 → Off l j

  channels_off : (n : ℕ) (t : Signal) → length t.spectra ≡ spectrum_length l → (i : ℕ) → NoPairs i
      → get_or (channels_mixed l n t).spectra i nan ≡ get_or t.spectra i nan
  unfolding channels_mixed
  channels_off zero t e i o = refl
  channels_off (suc n) t e i o =
      let before = channels_off n t e i o in
      by_paired (λ x. get_or x.spectra i nan ≡ get_or t.spectra i nan) n (channels_mixed l n t)
      (λ p. pair_off l sizes n (channels_mixed l n t) (channels-long n t e) (paired l n p) i (o n p) ∙ before) (λ _. before)

  pub mixed-long : (t : Signal) → length t.spectra ≡ spectrum_length l → length (mixed l t).spectra ≡ spectrum_length l
  unfolding mixed
  mixed-long t e = go (eqb l.stereo 0)
    where
      go : (b : Bool) → length (cond b t (channels_mixed l l.channels t)).spectra ≡ spectrum_length l
      go true = e
      go false = channels-long l.channels t e

  pub mixed_off : (t : Signal) → length t.spectra ≡ spectrum_length l → (i : ℕ) → NoPairs i → get_or (mixed l t).spectra i nan ≡ get_or t.spectra i nan
  unfolding mixed
  mixed_off t e i o = go (eqb l.stereo 0)
    where
      go : (b : Bool) → get_or (cond b t (channels_mixed l l.channels t)).spectra i nan ≡ get_or t.spectra i nan
      go true = refl
      go false = channels_off l.channels t e i o

  -- the right of channel c's pair, where no later pair takes it for its left
  module _ (c : ℕ) (is : paired_at l c ≡ true) (last : paired_at l (c + 1) ≡ false) (s b : ℕ) (h : s < 8) (lo : l.base ≤ b) (hi : b < l.total) where
    abbrev place : ℕ
    place = (c + 1) * 1024 + (s * 128 + b)

    channels_made : (n : ℕ) (t : Signal) → length t.spectra ≡ spectrum_length l → c < n → get_or (channels_mixed l n t).spectra place nan ≡ zero_f
    unfolding channels_mixed
    channels_made zero t e g = absurd (omega arith)
    channels_made (suc n) t e g =
        let u = channels_mixed l n t in
        let el = channels-long n t e in
        by_order c n
        (λ lt. let before = channels_made n t e lt in
        by_paired (λ x. get_or x.spectra place nan ≡ zero_f) n u
        (λ p. pair_off l sizes n u el (paired l n p) place (λ j ej _. absurd (other n p (later n lt j ej))) ∙ before) (λ _. before))
        (λ ge. let q : c ≡ n = omega arith in
        by_paired (λ x. get_or x.spectra place nan ≡ zero_f) n u
        (λ p. subst (λ m. get_or (pair_mixed l n u).spectra ((m + 1) * 1024 + (s * 128 + b)) nan ≡ zero_f) (sym q)
        (pair_made l sizes n u el (paired l n p) s b h lo hi))
        (λ p. absurd (not-both (subst (λ m. paired_at l m ≡ false) (sym q) p) is)))
      where
        later : (n : ℕ) → c < n → (j : ℕ) → place ≡ n * 1024 + j → c + 1 ≡ n
        later n lt j ej = omega (arith, sizes.bands)

        other : (n : ℕ) → paired_at l n ≡ true → c + 1 ≡ n → ⊥
        other n p q = not-both last (subst (λ m. paired_at l m ≡ true) (sym q) p)

    pub mixed_made : (t : Signal) → length t.spectra ≡ spectrum_length l → (l.stereo ≡ 0 → ⊥) → get_or (mixed l t).spectra place nan ≡ zero_f
    unfolding mixed
    mixed_made t e some = go (eqb l.stereo 0) refl
      where
        go : (b : Bool) → eqb l.stereo 0 ≡ b → get_or (cond b t (channels_mixed l l.channels t)).spectra place nan ≡ zero_f
        go true z = absurd (some (eqb-true _ _ z))
        go false z = channels_made l.channels t e (omega (arith, paired l c is))

-- ---- intensities

module _ (l : Layout) where
  eight_fits : (c : ℕ) (t : Signal) → length t.intensities ≡ side_length l → c + 1 < l.channels → (c + 1) * 8 + 8 ≤ length t.intensities
  eight_fits c t e q = let z : c + 2 ≤ l.channels = omega arith in omega (arith, e, mul-le-mul_right 8 z)

  -- no pair writes intensity i
  abbrev pub NoWrites : (i : ℕ) → Type 0
  NoWrites i = (c : ℕ) → paired_at l c ≡ true → (j : ℕ) → i ≡ (c + 1) * 8 + j → j < 8 → ⊥

  channel_unwritten : (c : ℕ) (t : Signal) → length t.intensities ≡ side_length l → (i : ℕ) → NoWrites i
      → (length (channel_mixed l c t).intensities ≡ side_length l) × (get_or (channel_mixed l c t).intensities i 0 ≡ get_or t.intensities i 0)
  unfolding channel_mixed pair_mixed
  channel_unwritten c t e i o = go (paired_at l c) refl
    where
      new : List ℕ
      new = (subframes_mixed l 8 (pair_at c t)).intensities

      long : c + 1 < l.channels → length new ≡ 8
      long q =
          side_length_lem l 8 (pair_at c t)
          ∙ length-take-le 8 (drop ((c + 1) * 8) t.intensities) (omega (arith, eight_fits c t e q, length-drop ((c + 1) * 8) t.intensities))

      go : (b : Bool) → paired_at l c ≡ b
          → (length (cond b (pair_mixed l c t) t).intensities ≡ side_length l) × (get_or (cond b (pair_mixed l c t) t).intensities i 0 ≡ get_or t.intensities i 0)
      go false p = (e, refl)
      go true p =
          let q = paired l c p in (
            put_back-length ((c + 1) * 8) 8 new t.intensities (eight_fits c t e q) (long q) ∙ e,
            put_back-at 0 ((c + 1) * 8) 8 new t.intensities (eight_fits c t e q) (long q) (λ x. x ≡ get_or t.intensities i 0) i (λ _. refl)
                (λ j ej h. absurd (o c p j ej h)) (λ _. refl),
          )

  channels_unwritten : (n : ℕ) (t : Signal) → length t.intensities ≡ side_length l → (i : ℕ) → NoWrites i
      → (length (channels_mixed l n t).intensities ≡ side_length l) × (get_or (channels_mixed l n t).intensities i 0 ≡ get_or t.intensities i 0)
  unfolding channels_mixed
  channels_unwritten zero t e i o = (e, refl)
  channels_unwritten (suc n) t e i o =
      let (el, ek) = channels_unwritten n t e i o in
      let (fl, fk) = channel_unwritten n (channels_mixed l n t) el i o in
      (fl, fk ∙ ek)

  pub mixed_unwritten : (t : Signal) → length t.intensities ≡ side_length l → (i : ℕ) → NoWrites i
      → get_or (mixed l t).intensities i 0 ≡ get_or t.intensities i 0
  unfolding mixed
  mixed_unwritten t e i o = go (eqb l.stereo 0)
    where
      go : (b : Bool) → get_or (cond b t (channels_mixed l l.channels t)).intensities i 0 ≡ get_or t.intensities i 0
      go true = refl
      go false = (channels_unwritten l.channels t e i o).1
