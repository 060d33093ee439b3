-- Request A2's sentences about spectra and intensities, of the stereo stage as it is called: what keeps its bits, what is zeroed, and that without stereo bands
-- nothing is done. Assumes nothing.
use mathlib.Core.Path.{◌≡◌, refl, sym, ◌∙◌, ap, ap₂}
use mathlib.Core.List.{List}
use mathlib.Core.Logic.{◌⊎◌, inl, inr}
use mathlib.Core.Bool.{true, false}
use Prim.Native.Nat.{ℕ, ◌+◌, ◌-◌, ◌*◌, ◌≤◌, ◌<◌}
use native.Mathlib.Nat.{mul-le-mul_right}
use native.Mathlib.Omega.{arith}
use borrow.Author.Tests.{eq-eqb}
use lib.Ieee.{Float, nan}
use lib.ListN.{length, get_or, take, drop, take-append-drop}
use lib.Seq.{get_or-take, get_or-drop, get_or-append-add, length-take-le}
use Rattle.floats.specs.Single.{zero_f}
use Rattle.rules.specs.Layout.{LegalLayout, spectrum_length, side_length}
use Rattle.rules.specs.Lent.{overwrite}
use Rattle.rules.specs.Stage.{StageLent, stage_lent, encode_frame}
use Rattle.rules.specs.declared.Layout.{Layout}
use Rattle.rules.proofs.Cuts.{by_order}
use Rattle.rules.proofs.Layouts.{legal_sizes}
use Rattle.rules_demands.proofs.FoundLevel.{not-both}
use Rattle.rules_demands.proofs.Exactly.{None, first-at}
use Rattle.rules_stereo.specs.Mixed.{Signal, signal, paired_at, mixed}
use Rattle.rules_stereo.specs.Stereo.{StereoLeft, with_signal, too_loud, lent_signal, mixed_front, stereo_run, encode_stereo_frame}
use Rattle.stereo_demands.proofs.MixedJudged.{mixed-side}
use Rattle.stereo_demands.proofs.MixedKept.{paired, Off, NoPairs, NoWrites, mixed-long, mixed_off, mixed_made, mixed_unwritten}
use Rattle.stereo_demands.proofs.StereoIsStage.{mixed_lent, StereoGood, laid_at, room, run_is_stage, stereo_case, stereo_is_stage}

-- ---- what the statements name

-- band b is outside base..total
abbrev pub OutsideBands : (l : Layout) (b : ℕ) → Type 0
OutsideBands l b = (b < l.base) ⊎ (l.total ≤ b)

-- channel c is the right of no pair; and the left of none
abbrev pub NoRight : (l : Layout) (c : ℕ) → Type 0
NoRight l c = (p : ℕ) → p + 1 ≡ c → paired_at l p ≡ false

abbrev pub InNoPair : (l : Layout) (c : ℕ) → Type 0
InNoPair l c = (paired_at l c ≡ false) × NoRight l c

-- ---- places

same-band : (x y b d : ℕ) → b < 128 → d < 128 → x * 128 + b ≡ y * 128 + d → b ≡ d
same-band x y b d h g e = omega arith

module _ (l : Layout) (sizes : LegalLayout l) where
  outside_off : (c s b : ℕ) → b < 128 → OutsideBands l b → Off l (c * 1024 + (s * 128 + b))
  outside_off c s b h out s' j g e = go out (same-band (c * 8 + s) s' b (l.base + j) h (omega (arith, sizes.bands)) (omega arith))
    where
      go : OutsideBands l b → b ≡ l.base + j → ⊥
      go (inl lo) q = omega arith
      go (inr hi) q = omega arith

  -- the same place, counted from a pair's start
  off_inside : (i c j : ℕ) → Off l i → i ≡ c * 1024 + j → Off l j
  off_inside i c j o e s k h q = o (c * 8 + s) k h (omega arith)

  unpaired_places : (c j : ℕ) → j < 1024 → InNoPair l c → NoPairs l sizes (c * 1024 + j)
  unpaired_places c j h apart p is k e g =
      by_order p c (λ lt. absurd (not-both (apart.1 p (omega arith)) is)) (λ ge. absurd (not-both (same (omega arith)) is))
    where
      same : p ≡ c → paired_at l p ≡ false
      same q = rw q apart.0

  unwritten_places : (c j : ℕ) → j < 8 → NoRight l c → NoWrites l (c * 8 + j)
  unwritten_places c j h apart p is k e g = not-both (apart p (omega arith)) is

-- ---- a list laid over a longer one

laid_rest : {A : Type 0} (z : A) (new old : List A) (i : ℕ) → length new ≤ i → get_or (overwrite new old) i z ≡ get_or old i z
laid_rest z new old i h =
    let k = i - length new in
    let e : i ≡ length new + k = omega arith in
    ap (λ (m : ℕ). get_or (overwrite new old) m z) e ∙ get_or-append-add new (drop (length new) old) k z ∙ get_or-drop (length new) old k z
    ∙ ap (λ (m : ℕ). get_or old m z) (sym e)

-- ---- a call that nothing is refused of

module _ (l : Layout) (t : StageLent) (h : StereoGood l t) where
  sizes : LegalLayout l
  sizes = legal_sizes l h.good.layout

  abbrev front : Signal
  front = signal (take (spectrum_length l) t.spectra) (take (side_length l) t.intensities)

  front-spectra : length front.spectra ≡ spectrum_length l
  front-spectra = length-take-le (spectrum_length l) t.spectra (room l t h).0

  front-side : length front.intensities ≡ side_length l
  front-side = length-take-le (side_length l) t.intensities (room l t h).1

  after-spectra : length (mixed l front).spectra ≡ spectrum_length l
  after-spectra = mixed-long l sizes front front-spectra

  after-side : length (mixed l front).intensities ≡ side_length l
  after-side = mixed-side l front front-side

  run_kept : (i : ℕ) → NoPairs l sizes i → get_or (stereo_run l t).spectra i nan ≡ get_or t.spectra i nan
  unfolding stereo_run mixed_front
  run_kept i o =
      by_order i (spectrum_length l)
      (λ lt. laid_at nan (mixed l front).spectra t.spectra i (omega (arith, after-spectra)) ∙ mixed_off l sizes front front-spectra i o
      ∙ get_or-take (spectrum_length l) t.spectra i nan lt)
      (λ ge. laid_rest nan (mixed l front).spectra t.spectra i (omega (arith, after-spectra)))

  run_unwritten : (i : ℕ) → NoWrites l i → get_or (stereo_run l t).intensities i 0 ≡ get_or t.intensities i 0
  unfolding stereo_run mixed_front
  run_unwritten i o =
      by_order i (side_length l)
      (λ lt. laid_at 0 (mixed l front).intensities t.intensities i (omega (arith, after-side)) ∙ mixed_unwritten l front front-side i o
      ∙ get_or-take (side_length l) t.intensities i 0 lt)
      (λ ge. laid_rest 0 (mixed l front).intensities t.intensities i (omega (arith, after-side)))

  -- without stereo bands what is mixed is what was lent
  unmixed : l.stereo ≡ 0 → mixed_lent l t ≡ t
  unfolding mixed_front mixed
  unmixed e =
      let p : overwrite front.spectra t.spectra ≡ t.spectra = rw front-spectra (take-append-drop (spectrum_length l) t.spectra) in
      let q : overwrite front.intensities t.intensities ≡ t.intensities = rw front-side (take-append-drop (side_length l) t.intensities) in
      rw (eq-eqb l.stereo 0 e)
      (ap₂ (λ (xs : List Float) (is : List ℕ). stage_lent xs is t.scaled t.codes t.factors t.side t.frame) p q)

-- ---- EVERY CALL

module _ (l : Layout) (t : StageLent) where
  -- Bands outside base..total keep their bits, in every channel and subframe; behind the stated length there is nothing that does not.
  pub outside_kept : (c s b : ℕ) → b < 128 → OutsideBands l b
      → get_or (encode_stereo_frame l t).spectra (c * 1024 + (s * 128 + b)) nan ≡ get_or t.spectra (c * 1024 + (s * 128 + b)) nan
  outside_kept c s b h out =
      let i = c * 1024 + (s * 128 + b) in
      stereo_case l t (λ x. get_or x.spectra i nan ≡ get_or t.spectra i nan) (λ _ _ _ _. refl) (λ _ _. refl)
      (λ g. run_kept l t g i (λ p _ j e _. off_inside l (sizes l t g) i p j (outside_off l (sizes l t g) c s b h out) e))

  -- A channel of no pair keeps all its values.
  pub unpaired_kept : (c j : ℕ) → j < 1024 → InNoPair l c → get_or (encode_stereo_frame l t).spectra (c * 1024 + j) nan ≡ get_or t.spectra (c * 1024 + j) nan
  unpaired_kept c j h apart =
      stereo_case l t (λ x. get_or x.spectra (c * 1024 + j) nan ≡ get_or t.spectra (c * 1024 + j) nan) (λ _ _ _ _. refl) (λ _ _. refl)
      (λ g. run_kept l t g (c * 1024 + j) (unpaired_places l (sizes l t g) c j h apart))

  -- Intensities that no pair writes stay the caller's: those of a channel that is the right of none.
  pub unwritten_kept : (c j : ℕ) → j < 8 → NoRight l c → get_or (encode_stereo_frame l t).intensities (c * 8 + j) 0 ≡ get_or t.intensities (c * 8 + j) 0
  unwritten_kept c j h apart =
      stereo_case l t (λ x. get_or x.intensities (c * 8 + j) 0 ≡ get_or t.intensities (c * 8 + j) 0) (λ _ _ _ _. refl) (λ _ _. refl)
      (λ g. run_unwritten l t g (c * 8 + j) (unwritten_places l (sizes l t g) c j h apart))

  -- The right of a pair is +0.0 from base to total, in every subframe, unless it is itself the left of a pair, which is then mixed from these zeros.
  pub right_zero : StereoGood l t → (l.stereo ≡ 0 → ⊥) → (c : ℕ) → paired_at l c ≡ true → paired_at l (c + 1) ≡ false
      → (s b : ℕ) → s < 8 → l.base ≤ b → b < l.total → get_or (encode_stereo_frame l t).spectra ((c + 1) * 1024 + (s * 128 + b)) nan ≡ zero_f
  unfolding mixed_front
  right_zero g some c is last s b h lo hi =
      let i = (c + 1) * 1024 + (s * 128 + b) in
      let z = sizes l t g in
      let has = paired l c is in
      let next : c + 2 ≤ l.channels = omega arith in
      ap (λ (x : StereoLeft). get_or x.spectra i nan) (stereo_is_stage l t g)
      ∙ laid_at nan (mixed l (front l t g)).spectra t.spectra i (omega (arith, after-spectra l t g, z.bands, mul-le-mul_right 1024 next))
      ∙ mixed_made l z c is last s b h lo hi (front l t g) (front-spectra l t g) some

  -- Without stereo bands nothing is done: the call is the stage on what was lent, where nothing is too loud.
  pub without_bands : l.stereo ≡ 0 → None (too_loud t.spectra) (spectrum_length l) → encode_stereo_frame l t ≡ with_signal (lent_signal t) (encode_frame l t)
  without_bands e quiet =
      stereo_case l t (λ x. x ≡ with_signal (lent_signal t) (encode_frame l t)) (λ n k _ q. ap (with_signal (lent_signal t)) (sym q))
      (λ _ h. let f = first-at (too_loud t.spectra) (spectrum_length l) h in absurd (not-both (quiet _ h) f.there))
      (λ g. run_is_stage l t g ∙ ap (λ u. with_signal (lent_signal u) (encode_frame l u)) (unmixed l t g e))
