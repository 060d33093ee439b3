-- Demand 1 and 2 for the stereo stage: each refusal, and the delivery, exactly when. 1 to 4 are the stage's on what was lent, 17 is a magnitude above 65,536,
-- 5, 7 and the delivery are the stage's on what was mixed. Assumes nothing.
use mathlib.Core.Path.{◌≡◌, sym, ◌∙◌, ap}
use mathlib.Core.List.{List}
use mathlib.Core.Logic.{◌↔◌, inl, inr}
use mathlib.Core.Bool.{true}
use Prim.Native.Nat.{ℕ, ◌≤◌, ◌<◌}
use native.Mathlib.Omega.{arith}
use borrow.Author.Tests.{le-ltb, lt-ltb}
use types.Run.{OneOf}
use Rattle.rules.specs.Layout.{spectrum_length}
use Rattle.rules.specs.Refusals.{delivered, refused}
use Rattle.rules.specs.Stage.{StageLent, StageLeft, gate, encode_frame}
use Rattle.rules.specs.declared.Layout.{Layout}
use Rattle.rules.proofs.Answers.{Numbered, numbered, stage_numbers}
use Rattle.rules.proofs.Cuts.{by_order}
use Rattle.rules_demands.proofs.FoundLevel.{not-both}
use Rattle.rules_demands.proofs.StageAnswers.{stage_numbers_lem}
use Rattle.rules_demands.proofs.Exactly.{first-at, first_passed, beside_of, differ, Good, good_passes, good_late}
use Rattle.rules_stereo.specs.Stereo.{StereoLeft, too_loud, judged_loud, stereo_gate, stereo_run, stereo_behind_gate, encode_stereo_frame}
use Rattle.stereo_demands.proofs.StereoIsStage.{mixed_lent, loud_by, StereoGood, mixed-good, run_is_stage, stereo_case, stereo_is_stage}
use Rattle.stereo_demands.proofs.StereoAnswers.{stereo_numbers, not_stage}
use Rattle.stereo_demands.proofs.StereoCalls.{stereo_delivers}

-- a magnitude above 65,536, in any band of any channel
abbrev pub SomeLoud : (l : Layout) (t : StageLent) → Type 0
SomeLoud l t = (i : ℕ) × (i < spectrum_length l) × (too_loud t.spectra i ≡ true)

-- the stage's numbers are among the stereo stage's
of_stage : (n : ℕ) → OneOf stage_numbers n → OneOf stereo_numbers n
of_stage n (inl e) = inl e
of_stage n (inr (inl e)) = inr (inl e)
of_stage n (inr (inr (inl e))) = inr (inr (inl e))
of_stage n (inr (inr (inr (inl e)))) = inr (inr (inr (inl e)))
of_stage n (inr (inr (inr (inr x)))) = inr (inr (inr (inr (inr x))))

module _ (l : Layout) (t : StageLent) where
  -- behind its gate it answers as the stage does on what was mixed
  run_answers : StereoGood l t → (stereo_run l t).outcome ≡ (encode_frame l (mixed_lent l t)).outcome
  run_answers h = ap (λ (x : StereoLeft). x.outcome) (run_is_stage l t h)

  -- 1 TO 4: exactly where the stage gives them on the spectra and intensities as lent, with the same number beside them.
  pub stereo_early_exactly : (n k : ℕ) → n ≤ 4 → ((encode_stereo_frame l t).outcome ≡ refused n k) ↔ ((encode_frame l t).outcome ≡ refused n k)
  stereo_early_exactly n k h = (
    stereo_case l t (λ x. x.outcome ≡ refused n k → (encode_frame l t).outcome ≡ refused n k)
        (λ m j _ q e. ap (λ (x : StageLeft). x.outcome) q ∙ e)
        (λ _ _ e. differ e (λ z. omega arith))
        (λ g e. absurd (omega (arith, good_late l (mixed_lent l t) (mixed-good l t g) n k (sym (run_answers g) ∙ e)))),
    stereo_case l t (λ x. (encode_frame l t).outcome ≡ refused n k → x.outcome ≡ refused n k)
        (λ m j _ q e. sym (ap (λ (x : StageLeft). x.outcome) q) ∙ e)
        (λ g _ e. absurd (omega (arith, good_late l t g n k e)))
        (λ g e. absurd (omega (arith, good_late l t g.good n k e))),
  )

  -- 17: exactly where nothing of the input is bad and a magnitude is above 65,536; beside it 0.
  pub seventeen_exactly : (k : ℕ) → ((encode_stereo_frame l t).outcome ≡ refused 17 k) ↔ (Good l t × SomeLoud l t × (k ≡ 0))
  unfolding encode_stereo_frame stereo_gate judged_loud stereo_behind_gate gate
  seventeen_exactly k = (
    stereo_case l t (λ x. x.outcome ≡ refused 17 k → Good l t × SomeLoud l t × (k ≡ 0))
        (λ n j h _ e. let z : n ≡ 17 = cc e in absurd (omega arith))
        (λ g h e. let f = first-at (too_loud t.spectra) (spectrum_length l) h in (g, (loud_by l t, h, f.there), sym (ap beside_of e)))
        (λ h e. not_stage (encode_frame l (mixed_lent l t)).outcome k (stage_numbers_lem l (mixed_lent l t)) (sym (run_answers h) ∙ e)),
    (λ x. let (g, loud, z) = x in
        let p = good_passes l t g in
        rw (p.layout, p.room, le-ltb _ _ p.intensities, le-ltb _ _ p.spectra, lt-ltb _ _ (loud-first loud), z)),
  )
    where
      loud-first : SomeLoud l t → loud_by l t < spectrum_length l
      loud-first y =
          let (i, h, e) = y in
          by_order (loud_by l t) (spectrum_length l) (λ lt. lt) (λ ge. absurd (not-both (first_passed (too_loud t.spectra) (spectrum_length l) ge i h) e))

  -- 5 AND 7: exactly where nothing of the input is bad or too loud and the stage gives them on what was mixed.
  pub stereo_late_exactly : (n k : ℕ) → 5 ≤ n → n ≤ 7
      → ((encode_stereo_frame l t).outcome ≡ refused n k) ↔ (StereoGood l t × ((encode_frame l (mixed_lent l t)).outcome ≡ refused n k))
  stereo_late_exactly n k g h = (
    stereo_case l t (λ x. x.outcome ≡ refused n k → StereoGood l t × ((encode_frame l (mixed_lent l t)).outcome ≡ refused n k))
        (λ m j q _ e. let z : m ≡ n = cc e in absurd (omega arith)) (λ _ _ e. differ e (λ z. omega arith)) (λ y e. (y, sym (run_answers y) ∙ e)),
    (λ x. ap (λ (y : StereoLeft). y.outcome) (stereo_is_stage l t x.0) ∙ x.1),
  )

  -- A FRAME: exactly where nothing of the input is bad or too loud and the stage delivers on what was mixed, with the same four answers.
  pub stereo_delivered_exactly : (ns : List ℕ) → ((encode_stereo_frame l t).outcome ≡ delivered ns)
      ↔ (StereoGood l t × ((encode_frame l (mixed_lent l t)).outcome ≡ delivered ns))
  stereo_delivered_exactly ns = (
    (λ e. let h = stereo_delivers l t ns e in (h, ap (λ (x : StereoLeft). x.outcome) (sym (stereo_is_stage l t h)) ∙ e)),
    (λ x. ap (λ (y : StereoLeft). y.outcome) (stereo_is_stage l t x.0) ∙ x.1),
  )

  -- Where a stereo call refuses, the number is one of seven.
  pub stereo_numbers_lem : Numbered stereo_numbers (encode_stereo_frame l t).outcome
  stereo_numbers_lem =
      stereo_case l t (λ x. Numbered stereo_numbers x.outcome)
      (λ m j _ q n k e. of_stage n (stage_numbers_lem l t n k (ap (λ (x : StageLeft). x.outcome) q ∙ e)))
      (λ _ _. numbered stereo_numbers 17 0 tt)
      (λ g n k e. of_stage n (stage_numbers_lem l (mixed_lent l t) n k (sym (run_answers g) ∙ e)))
