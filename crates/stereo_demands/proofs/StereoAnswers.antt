-- Demands 1 and 2 said of the stereo stage: what each refusal leaves in all seven buffers, which numbers can come, how large the numbers
-- are, and that two outcomes which the contract allows coincide. Assumes nothing.
use mathlib.Core.Path.{◌≡◌, refl, sym, ◌∙◌, ap, subst}
use mathlib.Core.List.{List, [], ◌∷◌}
use Prim.Native.Nat.{ℕ, ◌≤◌}
use native.Mathlib.Omega.{arith}
use lib.Dec.{ltb}
use lib.ListN.{length}
use types.Run.{miss}
use Rattle.buffers.proofs.Tests.{cond_both}
use Rattle.rules.specs.Fields.{fields}
use Rattle.rules.specs.Frame.{field_end}
use Rattle.rules.specs.Refusals.{Outcome, refused, stage_outcome}
use Rattle.rules.specs.Stage.{StageLent, StageLeft, cleared, stage_kept, stage_overwrite, Analysis, analysis, stage_record, delivery, after_packing, after_level}
use Rattle.rules.specs.declared.Layout.{Layout}
use Rattle.std.specs.Prelude.{Result, Ok, Err}
use Rattle.rules.specs.declared.Delivery.{Delivery}
use Rattle.rules.specs.declared.StageRefusal.{StageRefusal}
use Rattle.rules.specs.declared.StageRefusal.TheVariants as stage-of
use Rattle.rules.proofs.Answers.{Numbered, numbered, unnumbered, never, stage_numbers, stage_answers}
use Rattle.rules_demands.proofs.Outcomes.{stage_numbers_differ}
use Rattle.rules_demands.proofs.StageAnswers.{StageBounded, beside_bounded, stage_bounds}
use Rattle.rules_stereo.specs.Stereo.{stereo_outcome, StereoLeft, with_signal, lent_signal, mixed_front, stereo_run, encode_stereo_frame}
use Rattle.rules_stereo.specs.declared.StereoRefusal.{StereoRefusal}
use Rattle.rules_stereo.specs.declared.StereoRefusal.TheVariants.{TooLoud, Stage}
use Rattle.stereo_demands.proofs.StereoIsStage.{mixed_lent, run_is_stage, stereo_case}

-- ---- WHAT A REFUSAL LEAVES

module _ (l : Layout) (t : StageLent) where
  -- 1 to 4 and 17 keep all seven buffers; 5 and 7 leave spectra and intensities as mixed, and zeros over the stated lengths of the other five
  abbrev pub StereoLeaves : StereoLeft → Type 0
  StereoLeaves x =
      (n k : ℕ) → x.outcome ≡ refused n k →
      (n ≤ 4 → x ≡ with_signal (lent_signal t) (stage_kept t (refused n k)))
      × (n ≡ 17 → x ≡ with_signal (lent_signal t) (stage_kept t (refused n k)))
      × (5 ≤ n → n ≤ 7 → x ≡ with_signal (lent_signal (mixed_lent l t)) (stage_overwrite t (cleared l (refused n k))))

  all-kept : (a b : ℕ) → (5 ≤ a → a ≤ 7 → ⊥) → StereoLeaves (with_signal (lent_signal t) (stage_kept t (refused a b)))
  all-kept a b h n k e =
      let z : a ≡ n = cc e in
      let q : with_signal (lent_signal t) (stage_kept t (refused a b))
      ≡ with_signal (lent_signal t) (stage_kept t (refused n k)) = ap (λ (o : Outcome). with_signal (lent_signal t) (stage_kept t o)) e in
      (λ _. q, λ _. q, λ g j. absurd (h (omega arith) (omega arith)))

  abbrev Mixes : StageLeft → Type 0
  Mixes x = StereoLeaves (with_signal (lent_signal (mixed_lent l t)) (stage_overwrite t x))

  five-cleared : (a b : ℕ) → 5 ≤ a → a ≤ 7 → Mixes (cleared l (refused a b))
  five-cleared a b g j n k e =
      let z : a ≡ n = cc e in (
        λ h. absurd (omega arith),
        λ h. absurd (omega arith),
        λ _ _. ap
            (λ (o : Outcome). with_signal (lent_signal (mixed_lent l t)) (stage_overwrite t (cleared l o))) e,
      )

  run_leaves : (m : Analysis) → Mixes (after_level l m)
  unfolding after_level after_packing delivery
  run_leaves m =
      cond_both Mixes (ltb 254 m.found.level) (λ _. five-cleared 5 m.found.pairs (omega arith) (omega arith))
      (λ _. cond_both Mixes (ltb (field_end l) (length (fields l (stage_record l m))))
      (λ _. five-cleared 7 (length (fields l (stage_record l m))) (omega arith) (omega arith))
      (λ _ n k e. never e))

  pub stereo-leaves : StereoLeaves (encode_stereo_frame l t)
  unfolding stereo_run
  stereo-leaves =
      stereo_case l t StereoLeaves (λ n k h _. all-kept n k (λ g _. omega arith)) (λ _ _. all-kept 17 0 (λ _ g. omega arith))
      (λ _. run_leaves (analysis l (mixed_front l (lent_signal t)).spectra (mixed_front l (lent_signal t)).intensities))

-- ---- WHICH NUMBERS

abbrev pub stereo_numbers : List ℕ
stereo_numbers = 1 ∷ 2 ∷ 3 ∷ 4 ∷ 17 ∷ 5 ∷ 7 ∷ []

pub stereo-answers : (a : Result Delivery StereoRefusal) → Numbered stereo_numbers (stereo_outcome a)
unfolding stereo_outcome stage_outcome
stereo-answers (Ok d) = unnumbered stereo_numbers _
stereo-answers (Err TooLoud) = numbered stereo_numbers 17 0 tt
stereo-answers (Err (Stage stage-of.BadLayout)) = numbered stereo_numbers 1 0 tt
stereo-answers (Err (Stage stage-of.ShortBuffer)) = numbered stereo_numbers 2 0 tt
stereo-answers (Err (Stage (stage-of.BadIntensity i))) = numbered stereo_numbers 3 i tt
stereo-answers (Err (Stage (stage-of.BadSpectrum i))) = numbered stereo_numbers 4 i tt
stereo-answers (Err (Stage (stage-of.NoLevel pairs))) = numbered stereo_numbers 5 pairs tt
stereo-answers (Err (Stage (stage-of.TooLong bits))) = numbered stereo_numbers 7 bits tt

-- the stage never answers 17
pub not_stage : {A : Type 0} (o : Outcome) (k : ℕ) → Numbered stage_numbers o → o ≡ refused 17 k → A
not_stage o k h e = absurd (miss stage_numbers 17 tt (h 17 k e))

-- ---- HOW LARGE THE NUMBERS ARE, in every call
pub stereo_bounds : (l : Layout) (t : StageLent) → StageBounded (encode_stereo_frame l t).outcome
stereo_bounds l t =
    stereo_case l t (λ x. StageBounded x.outcome)
    (λ n k _ e. subst (λ (x : StageLeft). StageBounded x.outcome) e (stage_bounds l t))
    (λ _ _. beside_bounded 17 0 (omega arith))
    (λ h. subst (λ (x : StereoLeft). StageBounded x.outcome) (sym (run_is_stage l t h)) (stage_bounds l (mixed_lent l t)))

-- ---- ONE OUTCOME: different answers have different numbers, and what is left is one
pub stereo_numbers_differ : (a b : Result Delivery StereoRefusal) → stereo_outcome a ≡ stereo_outcome b → a ≡ b
unfolding stereo_outcome
stereo_numbers_differ (Ok a) (Ok b) e = let z : a ≡ b = cc (stage_numbers_differ (Ok a) (Ok b) e) in ap Ok z
stereo_numbers_differ (Ok a) (Err TooLoud) e = not_stage (stage_outcome (Ok a)) 0 (stage_answers (Ok a)) e
stereo_numbers_differ (Ok a) (Err (Stage b)) e = let z : ◌≡◌ {A = ℕ} 0 1 = cc (stage_numbers_differ (Ok a) (Err b) e) in absurd (omega arith)
stereo_numbers_differ (Err TooLoud) (Ok b) e = not_stage (stage_outcome (Ok b)) 0 (stage_answers (Ok b)) (sym e)
stereo_numbers_differ (Err TooLoud) (Err TooLoud) e = refl
stereo_numbers_differ (Err TooLoud) (Err (Stage b)) e = not_stage (stage_outcome (Err b)) 0 (stage_answers (Err b)) (sym e)
stereo_numbers_differ (Err (Stage a)) (Ok b) e = let z : ◌≡◌ {A = ℕ} 0 1 = cc (stage_numbers_differ (Err a) (Ok b) e) in absurd (omega arith)
stereo_numbers_differ (Err (Stage a)) (Err TooLoud) e = not_stage (stage_outcome (Err a)) 0 (stage_answers (Err a)) e
stereo_numbers_differ (Err (Stage a)) (Err (Stage b)) e = let z : a ≡ b = cc (stage_numbers_differ (Err a) (Err b) e) in ap (λ r. Err (Stage r)) z

pub stereo_once : (l : Layout) (t : StageLent) (x y : StereoLeft) (a b : Result Delivery StereoRefusal) → x ≡ encode_stereo_frame l t
    → y ≡ encode_stereo_frame l t →
    stereo_outcome a ≡ x.outcome → stereo_outcome b ≡ y.outcome → (x ≡ y) × (a ≡ b)
stereo_once l t x y a b p q e f =
    let z : x ≡ y = p ∙ sym q in
    (z, stereo_numbers_differ a b (e ∙ ap (λ (w : StereoLeft). w.outcome) z ∙ sym f))
