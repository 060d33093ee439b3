-- What is mixed passes the stage's own gate: no intensity is above 13 that was not lent, and the lengths stay. Assumes nothing.
use mathlib.Core.Path.{◌≡◌, refl, sym, ap, ◌∙◌, subst}
use mathlib.Core.List.{List}
use mathlib.Core.Bool.{Bool, true, false, cond, ◌&&◌}
use Prim.Native.Nat.{ℕ, zero, suc, ◌+◌, ◌-◌, ◌*◌, ◌/◌, ◌≤◌, ◌<◌}
use native.Mathlib.Nat.{mul-le-mul_right}
use native.Mathlib.Omega.{arith}
use borrow.Author.Tests.{le-ltb}
use lib.Dec.{T, eqb, ltb}
use lib.Ieee.{Float, le}
use lib.ListN.{length, get_or, drop, length-set, length-drop}
use lib.Seq.{get_or-take, get_or-drop, length-take-le}
use Rattle.buffers.specs.Walk.{first_from}
use Rattle.floats.specs.Single.{zero_f}
use Rattle.rules.specs.Layout.{side_length, secondary_at}
use Rattle.rules.specs.Stage.{bad_intensity}
use Rattle.rules_stereo.specs.Mixed.{Signal, combined_of, stored_of, bound_of, intensity_of, subframe_mixed, subframes_mixed, pair_at, pair_mixed, paired_at}
use Rattle.rules_stereo.specs.Mixed.{channel_mixed, channels_mixed, mixed}
use Rattle.rules.specs.declared.Layout.{Layout}
use Rattle.rules_stereo.specs.declared.Energies.{Energies}
use Rattle.stereo_demands.proofs.PutBack.{set_keeps, put_back-length, put_back-at}
use Rattle.stereo_demands.proofs.Quiet.{has_next}

first_below : (p : ℕ → Bool) (i k : ℕ) → first_from p i k ≤ i + k
unfolding first_from
first_below p i zero = omega arith
first_below p i (suc k) = go (p i) (first_below p (suc i) k)
  where
    go : (b : Bool) → first_from p (suc i) k ≤ suc i + k → cond b i (first_from p (suc i) k) ≤ i + suc k
    go true h = omega arith
    go false h = omega arith

bound_small : (stored : Float) → bound_of stored ≤ 13
unfolding bound_of
bound_small stored = first_below _ 1 12

pub intensity_small : (e : Energies) → intensity_of e ≤ 13
unfolding intensity_of
intensity_small e = go (le (combined_of e) zero_f) (bound_small (stored_of e))
  where
    go : (b : Bool) → bound_of (stored_of e) ≤ 13 → cond b 0 (bound_of (stored_of e)) ≤ 13
    go true h = omega arith
    go false h = h

module _ (l : Layout) where
  pub side_length_lem : (n : ℕ) (p : Signal) → length (subframes_mixed l n p).intensities ≡ length p.intensities
  unfolding subframes_mixed subframe_mixed
  side_length_lem zero p = refl
  side_length_lem (suc n) p = length-set (subframes_mixed l n p).intensities n _ ∙ side_length_lem n p

  module _ (P : ℕ → Type 0) (low : (v : ℕ) → v ≤ 13 → P v) where
    subframes_keep : (n : ℕ) (p : Signal) (i : ℕ) → P (get_or p.intensities i 0) → P (get_or (subframes_mixed l n p).intensities i 0)
    unfolding subframes_mixed subframe_mixed
    subframes_keep zero p i h = h
    subframes_keep (suc n) p i h = set_keeps 0 P (subframes_mixed l n p).intensities n i _ (low _ (intensity_small _)) (subframes_keep n p i h)

    module _ (c : ℕ) (t : Signal) (e : length t.intensities ≡ side_length l) (q : c + 1 < l.channels) where
      eight_fits : (c + 1) * 8 + 8 ≤ length t.intensities
      eight_fits = omega (arith, e, mul-le-mul_right 8 (le-two q))
        where
          le-two : c + 1 < l.channels → c + 2 ≤ l.channels
          le-two h = omega arith

      eight_length : length (pair_at c t).intensities ≡ 8
      eight_length = length-take-le 8 (drop ((c + 1) * 8) t.intensities) (omega (arith, eight_fits, length-drop ((c + 1) * 8) t.intensities))

      abbrev after : List ℕ
      after = (subframes_mixed l 8 (pair_at c t)).intensities

      after-length : length after ≡ 8
      after-length = side_length_lem 8 (pair_at c t) ∙ eight_length

      paired-side : length (pair_mixed l c t).intensities ≡ length t.intensities
      unfolding pair_mixed
      paired-side = put_back-length ((c + 1) * 8) 8 after t.intensities eight_fits after-length

      paired_keeps : (i : ℕ) → P (get_or t.intensities i 0) → P (get_or (pair_mixed l c t).intensities i 0)
      unfolding pair_mixed
      paired_keeps i h =
          put_back-at 0 ((c + 1) * 8) 8 after t.intensities eight_fits after-length P i (λ p. h)
          (λ j ej p.
          subframes_keep 8 (pair_at c t) j
          (subst P (sym (get_or-take 8 (drop ((c + 1) * 8) t.intensities) j 0 p ∙ get_or-drop ((c + 1) * 8) t.intensities j 0
          ∙ ap (λ (k : ℕ). get_or t.intensities k 0) (sym ej))) h))
          (λ p. h)

    channel_keeps : (c : ℕ) (t : Signal) → length t.intensities ≡ side_length l
        → (length (channel_mixed l c t).intensities ≡ side_length l) × ((i : ℕ) → P (get_or t.intensities i 0) → P (get_or (channel_mixed l c t).intensities i 0))
    unfolding channel_mixed
    channel_keeps c t e = go (paired_at l c) (has_next l c)
      where
        go : (b : Bool) → (T b → c + 1 < l.channels)
            → (length (cond b (pair_mixed l c t) t).intensities ≡ side_length l)
            × ((i : ℕ) → P (get_or t.intensities i 0) → P (get_or (cond b (pair_mixed l c t) t).intensities i 0))
        go true f = (paired-side c t e (f tt) ∙ e, λ i h. paired_keeps c t e (f tt) i h)
        go false f = (e, λ i h. h)

    channels-keep : (n : ℕ) (t : Signal) → length t.intensities ≡ side_length l
        → (length (channels_mixed l n t).intensities ≡ side_length l)
        × ((i : ℕ) → P (get_or t.intensities i 0) → P (get_or (channels_mixed l n t).intensities i 0))
    unfolding channels_mixed
    channels-keep zero t e = (e, λ i h. h)
    channels-keep (suc n) t e =
        let (el, ek) = channels-keep n t e in
        let (fl, fk) = channel_keeps n (channels_mixed l n t) el in
        (fl, λ i h. fk i (ek i h))

    pub mixed_keeps : (t : Signal) → length t.intensities ≡ side_length l
        → (length (mixed l t).intensities ≡ side_length l) × ((i : ℕ) → P (get_or t.intensities i 0) → P (get_or (mixed l t).intensities i 0))
    unfolding mixed
    mixed_keeps t e = go (eqb l.stereo 0)
      where
        go : (b : Bool) → (length (cond b t (channels_mixed l l.channels t)).intensities ≡ side_length l)
            × ((i : ℕ) → P (get_or t.intensities i 0) → P (get_or (cond b t (channels_mixed l l.channels t)).intensities i 0))
        go true = (e, λ i h. h)
        go false = channels-keep l.channels t e

pub mixed-side : (l : Layout) (t : Signal) → length t.intensities ≡ side_length l → length (mixed l t).intensities ≡ side_length l
mixed-side l t e = (mixed_keeps l (λ _. Unit {0}) (λ _ _. tt) t e).0

-- refusal 3: what was not bad as lent is not bad as mixed
pub mixed-judged : (l : Layout) (t : Signal) → length t.intensities ≡ side_length l → (i : ℕ) → bad_intensity l t.intensities i ≡ false
    → bad_intensity l (mixed l t).intensities i ≡ false
unfolding bad_intensity
mixed-judged l t e i h = (mixed_keeps l (λ v. ltb 15 v && secondary_at l (i / 8) ≡ false) small t e).1 i h
  where
    small : (v : ℕ) → v ≤ 13 → ltb 15 v && secondary_at l (i / 8) ≡ false
    small v p = rw (le-ltb 15 v (omega arith))
