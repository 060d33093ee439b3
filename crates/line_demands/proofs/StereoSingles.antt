-- The stereo stage's single call as a line uses it: all that a line asks of a step. Assumes nothing.
use mathlib.Core.Path.{◌≡◌, refl, sym, ◌∙◌, ap, ap₂, subst}
use mathlib.Core.List.{List, [], ◌∷◌}
use mathlib.Core.Logic.{◌⊎◌, inl, inr}
use mathlib.Core.Option.{Option, none, some}
use mathlib.Core.Bool.{true}
use Prim.Native.Nat.{ℕ, ◌≤◌}
use native.Mathlib.Omega.{arith}
use types.Run.{OneOf}
use lib.ListN.{length}
use Rattle.rules.specs.Layout.{LegalLayout, legal_layout}
use Rattle.rules.specs.Lent.{overwrite}
use Rattle.rules.specs.Refusals.{Outcome, refused}
use Rattle.rules.specs.Stage.{StageLent, stage_kept, stage_overwrite, cleared, stage_room, stage_has_room, analysis, after_level, encode_frame}
use Rattle.rules.specs.declared.Layout.{Layout}
use Rattle.rules.specs.declared.StageRoom.{StageRoom}
use Rattle.rules.proofs.Answers.{Numbered}
use Rattle.rules_stereo.specs.Mixed.{signal}
use Rattle.rules_stereo.specs.Stereo.{StereoLeft, with_signal, lent_signal, mixed_front, stereo_run, stereo_gate, judged_loud, stereo_behind_gate, encode_stereo_frame}
use Rattle.stereo_demands.proofs.StereoIsStage.{mixed_lent, StereoGood, mixed-room, run_is_stage, stereo_case, stereo_is_stage}
use Rattle.stereo_demands.proofs.StereoAnswers.{stereo_numbers, stereo-leaves, stereo_bounds}
use Rattle.stereo_demands.proofs.StereoExactly.{stereo_early_exactly, stereo_numbers_lem}
use Rattle.stereo_demands.proofs.StereoCalls.{stereo_delivers}
use Rattle.line_demands.proofs.Singles.{Roomy, AsLong, AsLent, AsCleared, SameCall, StepFacts, stage_long, gate_same, granted-numbers, early_apart}

-- ---- lengths

module _ (l : Layout) (z : LegalLayout l) (t : StageLent) (r : Roomy l t) where
  run_long : StereoGood l t → AsLong t (stereo_run l t)
  run_long h =
      let w = stage_long l z (mixed_lent l t) (record { scaled = r.scaled; codes = r.codes; factors = r.factors; side = r.side; frame = r.frame }) in
      let room = mixed-room l t h in
      subst (AsLong t) (sym (run_is_stage l t h)) (record {
        spectra = ap (λ (x : StageRoom). x.spectra) room;
        intensities = ap (λ (x : StageRoom). x.intensities) room;
        scaled = w.scaled;
        codes = w.codes;
        factors = w.factors;
        side = w.side;
        frame = w.frame;
      })

  kept-long : (o : Outcome) → AsLong t (with_signal (lent_signal t) (stage_kept t o))
  kept-long o = record { spectra = refl; intensities = refl; scaled = refl; codes = refl; factors = refl; side = refl; frame = refl }

  stereo-long : AsLong t (encode_stereo_frame l t)
  stereo-long = stereo_case l t (AsLong t) (λ n k _ _. kept-long (refused n k)) (λ _ _. kept-long (refused 17 0)) run_long

-- ---- any work buffers

module _ (l : Layout) (t u : StageLent) (a : t.spectra ≡ u.spectra) (b : t.intensities ≡ u.intensities) (c : t.frame ≡ u.frame) where
  run_same : SameCall (stereo_run l t) (stereo_run l u)
  unfolding stereo_run
  run_same = record {
    outcome = ap₂ (λ xs is. let m = mixed_front l (signal xs is) in (after_level l (analysis l m.spectra m.intensities)).outcome) a b;
    spectra = ap₂ (λ xs is. overwrite (mixed_front l (signal xs is)).spectra xs) a b;
    intensities = ap₂ (λ xs is. overwrite (mixed_front l (signal xs is)).intensities is) a b;
    frame = ap₂ (λ xs is. let m = mixed_front l (signal xs is) in overwrite (after_level l (analysis l m.spectra m.intensities)).frame t.frame) a b
        ∙ ap (λ ys. let m = mixed_front l (lent_signal u) in overwrite (after_level l (analysis l m.spectra m.intensities)).frame ys) c;
  }

  behind-same : (g : Option Outcome) → SameCall (stereo_behind_gate g t (stereo_run l t)) (stereo_behind_gate g u (stereo_run l u))
  unfolding stereo_behind_gate
  behind-same (some o) = record { outcome = refl; spectra = a; intensities = b; frame = c }
  behind-same none = run_same

  stereo_any_work : stage_has_room l (stage_room t) ≡ stage_has_room l (stage_room u) → SameCall (encode_stereo_frame l t) (encode_stereo_frame l u)
  unfolding encode_stereo_frame stereo_gate
  stereo_any_work h =
      let g = gate_same l (stage_room t) (stage_room u) t u a b h in
      let q = ap₂ (λ w xs. judged_loud w l xs) g a in
      subst (λ w. SameCall (stereo_behind_gate w t (stereo_run l t)) (stereo_behind_gate (stereo_gate l (stage_room u) u.spectra u.intensities) u
      (stereo_run l u)))
      (sym q) (behind-same (stereo_gate l (stage_room u) u.spectra u.intensities))

-- ---- numbers

abbrev pub stereo_late : List ℕ
stereo_late = 3 ∷ 4 ∷ 17 ∷ 5 ∷ 7 ∷ []

late_high : (n : ℕ) → OneOf stereo_late n → (3 ≤ n) × (n ≤ 17)
late_high n (inl e) = (omega arith, omega arith)
late_high n (inr (inl e)) = (omega arith, omega arith)
late_high n (inr (inr (inl e))) = (omega arith, omega arith)
late_high n (inr (inr (inr (inl e)))) = (omega arith, omega arith)
late_high n (inr (inr (inr (inr e)))) = (omega arith, omega arith)

not-two : (n : ℕ) → OneOf (3 ∷ 4 ∷ 5 ∷ 7 ∷ []) n → n ≤ 2 → ⊥
not-two n (inl e) h = omega arith
not-two n (inr (inl e)) h = omega arith
not-two n (inr (inr (inl e))) h = omega arith
not-two n (inr (inr (inr e))) h = omega arith

module _ (l : Layout) (t : StageLent) (a : legal_layout l ≡ true) (b : stage_has_room l (stage_room t) ≡ true) where
  -- behind the line's gate 1 and 2 do not come
  stereo-granted : Numbered stereo_late (encode_stereo_frame l t).outcome
  stereo-granted n k e = by_number (stereo_numbers_lem l t n k e)
    where
      passed : n ≤ 2 → ⊥
      passed h = not-two n (granted-numbers l t a b n k ((stereo_early_exactly l t n k (omega arith)).0 e)) h

      by_number : OneOf stereo_numbers n → OneOf stereo_late n
      by_number (inl q) = absurd (passed (omega arith))
      by_number (inr (inl q)) = absurd (passed (omega arith))
      by_number (inr (inr q)) = q

-- ---- what a refusal leaves

as_lent : (t : StageLent) (o : Outcome) (x : StereoLeft) → x ≡ with_signal (lent_signal t) (stage_kept t o) → AsLent t x
as_lent t o x e = record {
  spectra = ap (λ (y : StereoLeft). y.spectra) e;
  intensities = ap (λ (y : StereoLeft). y.intensities) e;
  scaled = ap (λ (y : StereoLeft). y.scaled) e;
  codes = ap (λ (y : StereoLeft). y.codes) e;
  factors = ap (λ (y : StereoLeft). y.factors) e;
  side = ap (λ (y : StereoLeft). y.side) e;
  frame = ap (λ (y : StereoLeft). y.frame) e;
}

stereo_keeps : (l : Layout) (t : StageLent) (n k : ℕ) → (encode_stereo_frame l t).outcome ≡ refused n k → (n ≤ 4) ⊎ (n ≡ 17) → AsLent t (encode_stereo_frame l t)
stereo_keeps l t n k e (inl h) = as_lent t (refused n k) (encode_stereo_frame l t) ((stereo-leaves l t n k e).0 h)
stereo_keeps l t n k e (inr h) = as_lent t (refused n k) (encode_stereo_frame l t) ((stereo-leaves l t n k e).1 h)

stereo_clears : (l : Layout) (t : StageLent) (n k : ℕ) → (encode_stereo_frame l t).outcome ≡ refused n k → (5 ≤ n) × (n ≤ 7)
    → AsCleared l t (encode_stereo_frame l t)
stereo_clears l t n k e h =
    let q = (stereo-leaves l t n k e).2 h.0 h.1 in
    record {
      scaled = ap (λ (y : StereoLeft). y.scaled) q;
      codes = ap (λ (y : StereoLeft). y.codes) q;
      factors = ap (λ (y : StereoLeft). y.factors) q;
      side = ap (λ (y : StereoLeft). y.side) q;
      frame = ap (λ (y : StereoLeft). y.frame) q;
    }

-- ---- all that a line asks of the stereo stage

pub stereo-step : StepFacts encode_stereo_frame stereo_late (λ n. (n ≤ 4) ⊎ (n ≡ 17)) (λ n. (5 ≤ n) × (n ≤ 7))
stereo-step = record {
  long = stereo-long;
  any_work = stereo_any_work;
  bounds = stereo_bounds;
  numbers = stereo-granted;
  not_early = λ n h e. let (a, b) = late_high n h in early_apart n e a b;
  keeps = stereo_keeps;
  clears = stereo_clears;
  staged = λ l t ns e. (mixed_lent l t, stereo_is_stage l t (stereo_delivers l t ns e));
}
