-- Behind its gate the stereo stage is the stage on the mixed spectra and intensities: what is mixed passes refusals 3 and 4 again, since mixed values
-- are finite and no intensity above 13 is made. Assumes nothing.
use mathlib.Core.Path.{◌≡◌, sym, ◌∙◌, ap}
use mathlib.Core.List.{List}
use mathlib.Core.Bool.{Bool, true, false, not, ◌&&◌}
use mathlib.Core.Option.{Option, none}
use Prim.Native.Nat.{ℕ, ◌+◌, ◌/◌, ◌≤◌, ◌<◌}
use native.Mathlib.Omega.{arith}
use borrow.Author.Tests.{leb-true, ltb-true, ltb-false, le-ltb, lt-ltb, not-false}
use lib.Dec.{leb, ltb}
use lib.Ieee.{Float, nan}
use lib.Ieee.Scale.{finite}
use lib.ListN.{length, get_or, take, drop, length-append, length-drop, get_or-append}
use lib.Seq.{length-take-le, get_or-take}
use Rattle.buffers.specs.Walk.{first}
use Rattle.buffers.proofs.Tests.{and_fst, and_snd, cond_both}
use Rattle.rules.specs.Layout.{legal_layout, LegalLayout, spectrum_length, side_length, secondary_at, room_of}
use Rattle.rules.specs.Lent.{overwrite}
use Rattle.rules.specs.Refusals.{Outcome, refused}
use Rattle.rules.specs.Stage.{StageLent, StageLeft, stage_lent, stage_room_of, stage_room, stage_has_room, bad_intensity, bad_spectrum, gate, analysis, after_level}
use Rattle.rules.specs.Stage.{stage_kept, stage_overwrite, behind_gate, encode_frame}
use Rattle.rules.specs.declared.Layout.{Layout}
use Rattle.rules.proofs.Layouts.{legal_sizes}
use Rattle.rules_demands.proofs.Deliveries.{laid_front}
use Rattle.rules_demands.proofs.StageAnswers.{Passes, analysis_by, intensity_by, spectrum_by}
use Rattle.rules_demands.proofs.Exactly.{None, first_passed, first-none, Good, good_passes, passes_good}
use Rattle.rules_stereo.specs.Mixed.{Signal, signal, mixed}
use Rattle.rules_stereo.specs.Stereo.{StereoLeft, with_signal, too_loud, judged_loud, stereo_gate, lent_signal, mixed_front, signal_overwrite, stereo_run}
use Rattle.rules_stereo.specs.Stereo.{stereo_behind_gate, encode_stereo_frame}
use Rattle.stereo_demands.proofs.MixedFinite.{MagnitudeAtMost, not-loud, mixed-length, mixed_passes}
use Rattle.stereo_demands.proofs.MixedJudged.{mixed-side, mixed-judged}

-- ---- what the statements name

-- the call with its spectra and intensities mixed
abbrev pub mixed_lent : (l : Layout) (t : StageLent) → StageLent
mixed_lent l t =
    let s = signal_overwrite (mixed_front l (lent_signal t)) (lent_signal t) in
    stage_lent s.spectra s.intensities t.scaled t.codes t.factors t.side t.frame

-- the first magnitude above the limit; where there is none, how many there are
abbrev pub loud_by : (l : Layout) (t : StageLent) → ℕ
loud_by l t = first (too_loud t.spectra) (spectrum_length l)

-- nothing of the input is bad, and nothing too loud
pub record StereoGood (l : Layout) (t : StageLent) : Type 0 where
  pub good : Good l t
  pub quiet : None (too_loud t.spectra) (spectrum_length l)

-- ---- a list laid over a longer one
pub laid_length : {A : Type 0} (new old : List A) → length new ≤ length old → length (overwrite new old) ≡ length old
laid_length new old h = simp (length-append, length-drop) (omega arith)

pub laid_at : {A : Type 0} (z : A) (new old : List A) (i : ℕ) → i < length new → get_or (overwrite new old) i z ≡ get_or new i z
laid_at z new old i h = get_or-append new (drop (length new) old) z i h

-- ---- the stage behind its own gate
open_stage : (l : Layout) (t : StageLent) → Passes l t → encode_frame l t ≡ stage_overwrite t (after_level l (analysis_by l t))
unfolding encode_frame gate behind_gate
open_stage l t k = rw (k.layout, k.room, le-ltb _ _ k.intensities, le-ltb _ _ k.spectra)

-- ---- a call that nothing is refused of
module _ (l : Layout) (t : StageLent) (h : StereoGood l t) where
  sizes : LegalLayout l
  sizes = legal_sizes l h.good.layout

  pub room : (spectrum_length l ≤ length t.spectra) × (side_length l ≤ length t.intensities)
  unfolding stage_has_room
  room = (
    leb-true _ _ (and_fst (leb (spectrum_length l) (length t.spectra)) _ h.good.room),
    leb-true _ _ (and_fst (leb (side_length l) (length t.intensities)) _ (and_snd (leb (spectrum_length l) (length t.spectra)) _ h.good.room)),
  )

  -- its front, as lent and as mixed
  abbrev front : Signal
  front = signal (take (spectrum_length l) t.spectra) (take (side_length l) t.intensities)

  front-spectra : length front.spectra ≡ spectrum_length l
  front-spectra = length-take-le (spectrum_length l) t.spectra room.0

  front-side : length front.intensities ≡ side_length l
  front-side = length-take-le (side_length l) t.intensities room.1

  front-quiet : (i : ℕ) → i < spectrum_length l → MagnitudeAtMost 0x47800000 (get_or front.spectra i nan)
  unfolding bad_spectrum too_loud
  front-quiet i p =
      let e = get_or-take (spectrum_length l) t.spectra i nan p in
      rw e (not-loud (get_or t.spectra i nan) (not-false (finite (get_or t.spectra i nan)) (h.good.spectra i p)) (h.quiet i p))

  abbrev after : Signal
  after = mixed l front

  after-spectra : length after.spectra ≡ spectrum_length l
  after-spectra = mixed-length l front sizes front-spectra front-quiet

  after-side : length after.intensities ≡ side_length l
  after-side = mixed-side l front front-side

  -- what is mixed is good
  pub mixed-room : stage_room (mixed_lent l t) ≡ stage_room t
  unfolding mixed_front
  mixed-room =
      let p : length (overwrite after.spectra t.spectra)
      ≡ length t.spectra = laid_length after.spectra t.spectra (omega (arith, after-spectra, room.0)) in
      let q : length (overwrite after.intensities t.intensities)
      ≡ length t.intensities = laid_length after.intensities t.intensities (omega (arith, after-side, room.1)) in
      rw (p, q)

  mixed_intensities_lem : None (bad_intensity l (mixed_lent l t).intensities) (side_length l)
  unfolding mixed_front bad_intensity
  mixed_intensities_lem i p =
      let e = laid_at 0 after.intensities t.intensities i (omega (arith, after-side)) in
      let d = get_or-take (side_length l) t.intensities i 0 p in
      rw e (mixed-judged l front front-side i (rw d (h.good.intensities i p)))

  mixed-spectra : None (bad_spectrum (mixed_lent l t).spectra) (spectrum_length l)
  unfolding mixed_front bad_spectrum
  mixed-spectra i p =
      let e = laid_at nan after.spectra t.spectra i (omega (arith, after-spectra)) in
      rw e (mixed_passes l front sizes front-spectra front-quiet i p)

  pub mixed-good : Good l (mixed_lent l t)
  mixed-good = record {
    layout = h.good.layout;
    room = ap (stage_has_room l) mixed-room ∙ h.good.room;
    intensities = mixed_intensities_lem;
    spectra = mixed-spectra;
  }

  stage_mixed : encode_frame l (mixed_lent l t) ≡ stage_overwrite t (after_level l (analysis l after.spectra after.intensities))
  unfolding mixed_front
  stage_mixed =
      let p = laid_front (spectrum_length l) after.spectra t.spectra after-spectra in
      let q = laid_front (side_length l) after.intensities t.intensities after-side in
      rw (p, q) at (open_stage l (mixed_lent l t) (good_passes l (mixed_lent l t) mixed-good))

  pub run_is_stage : stereo_run l t ≡ with_signal (lent_signal (mixed_lent l t)) (encode_frame l (mixed_lent l t))
  unfolding stereo_run mixed_front
  run_is_stage = ap (with_signal (lent_signal (mixed_lent l t))) (sym stage_mixed)

-- ---- how a call ends
module _ (l : Layout) (t : StageLent) where
  -- refused as the stage refuses, or with 17, or run
  pub stereo_case : (P : StereoLeft → Type 0)
      → ((n k : ℕ) → n ≤ 4 → encode_frame l t ≡ stage_kept t (refused n k) → P (with_signal (lent_signal t) (stage_kept t (refused n k))))
      → (Good l t → loud_by l t < spectrum_length l → P (with_signal (lent_signal t) (stage_kept t (refused 17 0))))
      → (StereoGood l t → P (stereo_run l t)) → P (encode_stereo_frame l t)
  unfolding encode_stereo_frame stereo_gate judged_loud stereo_behind_gate encode_frame gate behind_gate
  stereo_case P shut loud run =
      let Q : Option Outcome → Type 0 = λ g. P (stereo_behind_gate (judged_loud g l t.spectra) t (stereo_run l t)) in
      let R : Option Outcome → Type 0 = λ g. P (stereo_behind_gate g t (stereo_run l t)) in
      cond_both Q (not (legal_layout l)) (λ a. shut 1 0 (omega arith) (rw a))
      (λ a. cond_both Q (not (stage_has_room l (stage_room t))) (λ b. shut 2 0 (omega arith) (rw (a, b)))
      (λ b. cond_both Q (ltb (intensity_by l t) (side_length l)) (λ c. shut 3 (intensity_by l t) (omega arith) (rw (a, b, c)))
      (λ c. cond_both Q (ltb (spectrum_by l t) (spectrum_length l)) (λ d. shut 4 (spectrum_by l t) (omega arith) (rw (a, b, c, d)))
      (λ d. let k : Passes l t = record { layout = not-false _ a; room = not-false _ b; intensities = ltb-false _ _ c; spectra = ltb-false _ _ d } in
      cond_both R (ltb (loud_by l t) (spectrum_length l)) (λ e. loud (passes_good l t k) (ltb-true _ _ e))
      (λ e. run (record { good = passes_good l t k; quiet = first_passed (too_loud t.spectra) (spectrum_length l) (ltb-false _ _ e) }))))))

  -- A call that nothing is refused of leaves what the stage leaves on the mixed spectra and intensities, and these.
  open_run : StereoGood l t → encode_stereo_frame l t ≡ stereo_run l t
  unfolding encode_stereo_frame stereo_gate judged_loud stereo_behind_gate gate
  open_run h =
      let k = good_passes l t h.good in
      rw (
        k.layout,
        k.room,
        le-ltb _ _ k.intensities,
        le-ltb _ _ k.spectra,
        le-ltb _ _
            (first-none (too_loud t.spectra) (spectrum_length l) h.quiet),
      )

  pub stereo_is_stage : StereoGood l t → encode_stereo_frame l t ≡ with_signal (lent_signal (mixed_lent l t)) (encode_frame l (mixed_lent l t))
  stereo_is_stage h = open_run h ∙ run_is_stage l t h
