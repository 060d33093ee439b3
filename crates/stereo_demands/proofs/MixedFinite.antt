-- The limit's reason: of spectra within 65,536 no energy passes 2 ^ 25, no mixed value 2 ^ 17, and nothing is NaN. Assumes nothing.
use mathlib.Core.Path.{◌≡◌, refl, sym, ap, ◌∙◌}
use mathlib.Core.Bool.{Bool, true, false, cond, not, true≢false}
use Prim.Native.Nat.{ℕ, ◌+◌, ◌*◌, ◌^◌, ◌≤◌, ◌<◌}
use native.Mathlib.Nat.{mul-one, one-mul}
use native.Mathlib.Omega.{arith}
use borrow.Author.Tests.{ltb-false}
use lib.Dec.{T, eqb, leb→le}
use lib.IntN.{pos}
use lib.Ieee.{Float, nan, inf, fin, binary32, of_bits, up, down, lt, le}
use lib.Ieee.Scale.{finite}
use lib.ListN.{length, get_or}
use Rattle.floats.specs.Single.{abs_f, zero_f}
use Rattle.rules.specs.Layout.{LegalLayout, spectrum_length}
use Rattle.rules.specs.Stage.{bad_spectrum}
use Rattle.rules_stereo.specs.Mixed.{Signal, energies_at, combined_of, stored_of, ratio_of, subframes_mixed, pair_at, paired_at, channels_mixed, mixed}
use Rattle.rules.specs.declared.Layout.{Layout}
use Rattle.rules_stereo.specs.declared.Energies.{Energies}
use Rattle.stereo_demands.proofs.UpTo.{UpTo, wider, within-at-most, at-most-within}
use Rattle.stereo_demands.proofs.Ratio.{NoNan, Fine, combined_within, stored-number, ratio_within}
use Rattle.stereo_demands.proofs.Quiet.{limit, half, QuietFrom, has_next, pair-length, pair-ahead, subframes_length, subframes_ahead, at-fine}
use Rattle.stereo_demands.proofs.Quiet.{channels-ahead}

-- |x| is at most the float with this pattern: so x is neither a NaN nor an infinity
abbrev pub MagnitudeAtMost : (bits : ℕ) (x : Float) → Type 0
MagnitudeAtMost bits x = T (le (abs_f x) (of_bits binary32 bits))

-- refusal 17's test: a finite value that is not above the limit is at most it
not-above : (k : ℕ) (x : Float) → finite x ≡ true → lt (fin false 1 (pos k)) (abs_f x) ≡ false → UpTo (2 ^ k) x
unfolding abs_f lt
not-above k nan f h = absurd (true≢false (sym f))
not-above k (inf s) f h = absurd (true≢false (sym f))
not-above k (fin s m e) f h =
    let below : m * up e * 1 ≤ 1 * 2 ^ k * down e = ltb-false (1 * 2 ^ k * down e) (m * up e * 1) h in
    rw (mul-one (m * up e), one-mul (2 ^ k)) at below

pub not-loud : (x : Float) → finite x ≡ true → lt (of_bits binary32 0x47800000) (abs_f x) ≡ false → MagnitudeAtMost 0x47800000 x
unfolding of_bits
not-loud x f h = within-at-most 16 x (not-above 16 x f h)

within-finite : (n : ℕ) (x : Float) → UpTo n x → finite x ≡ true
within-finite n nan w = absurd w
within-finite n (inf s) w = absurd w
within-finite n (fin s m e) w = refl

-- what is worked out of a subframe's energies; what is stored is looked at only where the pair is not silent
pub record FiniteEnergies (e : Energies) : Type 0 where
  pub left : MagnitudeAtMost 0x4C000000 e.left
  pub right : MagnitudeAtMost 0x4C000000 e.right
  pub total : MagnitudeAtMost 0x4C000000 e.total
  pub combined : MagnitudeAtMost 0x4C000000 (combined_of e)
  pub stored : le (combined_of e) zero_f ≡ false → NoNan (stored_of e)
  pub ratio : MagnitudeAtMost 0x3F800000 (ratio_of e)

finite-energies : (e : Energies) → Fine half e → FiniteEnergies e
unfolding of_bits
finite-energies e f = record {
  left = within-at-most 25 e.left (wider half (2 ^ 25) e.left (leb→le _ _ tt) f.left);
  right = within-at-most 25 e.right (wider half (2 ^ 25) e.right (leb→le _ _ tt) f.right);
  total = within-at-most 25 e.total f.total;
  combined = within-at-most 25 (combined_of e) (wider (half + half) (2 ^ 25) (combined_of e) (leb→le _ _ tt) (combined_within half e (leb→le _ _ tt) f));
  stored = stored-number half e (leb→le _ _ tt) f;
  ratio = within-at-most 0 (ratio_of e) (ratio_within half e (leb→le _ _ tt) f);
}

-- the energies of subframe s of channel c's pair, as they are when it is mixed
abbrev pub energies_then : (l : Layout) (c s : ℕ) (t : Signal) → Energies
energies_then l c s t = energies_at l s (subframes_mixed l s (pair_at c (channels_mixed l c t))).spectra

module _ (l : Layout) (t : Signal) (sizes : LegalLayout l) (e : length t.spectra ≡ spectrum_length l)
    (quiet : (i : ℕ) → i < spectrum_length l → MagnitudeAtMost 0x47800000 (get_or t.spectra i nan)) where
  start : QuietFrom 0 t.spectra
  unfolding of_bits
  start =
      let small : (i : ℕ) → i < length t.spectra → UpTo limit (get_or t.spectra i nan) =
      λ i h. at-most-within 16 (get_or t.spectra i nan) (quiet i (omega (arith, e))) in
      record { all = λ i h. wider limit (2 * limit) (get_or t.spectra i nan) (leb→le _ _ tt) (small i h); rest = λ i p h. small i h }

  all-mixed : (length (mixed l t).spectra ≡ spectrum_length l) × ((i : ℕ) → i < spectrum_length l → UpTo (2 ^ 17) (get_or (mixed l t).spectra i nan))
  unfolding mixed
  all-mixed = go (eqb l.stereo 0)
    where
      go : (b : Bool) → (length (cond b t (channels_mixed l l.channels t)).spectra ≡ spectrum_length l)
          × ((i : ℕ) → i < spectrum_length l → UpTo (2 ^ 17) (get_or (cond b t (channels_mixed l l.channels t)).spectra i nan))
      go true = (e, λ i h. start.all i (omega (arith, e)))
      go false =
          let (el, a) = channels-ahead l sizes l.channels t e start in
          (el, λ i h. a.all i (omega (arith, el)))

  pub mixed-length : length (mixed l t).spectra ≡ spectrum_length l
  mixed-length = all-mixed.0

  pub mixed-finite : (i : ℕ) → i < spectrum_length l → MagnitudeAtMost 0x48000000 (get_or (mixed l t).spectra i nan)
  unfolding of_bits
  mixed-finite i h = within-at-most 17 (get_or (mixed l t).spectra i nan) (all-mixed.1 i h)

  -- so what is mixed passes refusal 4
  pub mixed_passes : (i : ℕ) → i < spectrum_length l → bad_spectrum (mixed l t).spectra i ≡ false
  unfolding bad_spectrum
  mixed_passes i h = ap not (within-finite (2 ^ 17) (get_or (mixed l t).spectra i nan) (all-mixed.1 i h))

  pub energies-finite : (c s : ℕ) → T (paired_at l c) → s < 8 → FiniteEnergies (energies_then l c s t)
  energies-finite c s p h =
      let (el, a) = channels-ahead l sizes c t e start in
      let before = channels_mixed l c t in
      let q = has_next l c p in
      let pl = pair-length l sizes c before el q in
      finite-energies (energies_then l c s t)
      (at-fine l sizes s h (subframes_mixed l s (pair_at c before)).spectra (subframes_length l sizes s (pair_at c before) ∙ pl)
      (subframes_ahead l sizes s (pair_at c before) (omega arith) pl (pair-ahead l sizes c before el q a)))
