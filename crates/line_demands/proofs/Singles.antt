-- The single call as a line uses it, a step: lengths stay, the work buffers' content does not matter, which numbers it refuses with and what these leave.
-- All that the theorems of a line know of a step is `StepFacts`; here those of the stage. Assumes nothing.
use mathlib.Core.Path.{◌≡◌, refl, sym, ◌∙◌, ap, ap₂}
use mathlib.Core.List.{List, [], ◌∷◌, ◌++◌}
use mathlib.Core.Logic.{◌⊎◌, inl, inr}
use mathlib.Core.Option.{Option, none, some}
use mathlib.Core.Bool.{true, not}
use Prim.Native.Nat.{ℕ, ◌+◌, ◌-◌, ◌≤◌}
use native.Mathlib.Omega.{arith}
use borrow.Author.Tests.{le-leb}
use types.Run.{OneOf}
use lib.Dec.{ltb}
use lib.ListN.{length, drop, take, length-append, length-drop, length-replicate}
use Rattle.buffers.specs.Walk.{first}
use Rattle.buffers.proofs.Tests.{cond_both}
use Rattle.buffers.proofs.Blocks.{length-blocks}
use Rattle.rules.specs.Layout.{LegalLayout, legal_layout, coded_count_at, frame_size, spectrum_length, factor_length, side_length, has_room, part}
use Rattle.rules.specs.Factor.{all_factors}
use Rattle.rules.specs.Scaling.{channel_scaled, all_scaled}
use Rattle.rules.specs.Frame.{field_end, frame_of}
use Rattle.rules.specs.Lent.{overwrite, no_floats, no_codes, no_factors, no_side, no_frame}
use Rattle.rules.specs.Refusals.{Outcome, delivered, refused}
use Rattle.rules.specs.Stage.{StageLent, StageLeft, stage_kept, cleared, stage_overwrite, behind_gate, stage_room, stage_has_room, gate, analysis, analysis_from}
use Rattle.rules.specs.Stage.{stage_record, delivery, after_packing, after_level, encode_frame}
use Rattle.rules.specs.declared.Layout.{Layout}
use Rattle.rules.specs.declared.StageRoom.{StageRoom}
use Rattle.rules.proofs.Answers.{Numbered, numbered, unnumbered}
use Rattle.rules.proofs.Made.{scaled-size}
use Rattle.rules_demands.proofs.MadeRecord.{made_factors, made_side, made_codes}
use Rattle.rules_demands.proofs.Demand3.{frame-length}
use Rattle.rules.proofs.Refused.{refused-leaves}
use Rattle.rules_demands.proofs.StageAnswers.{StageBounded, stage_bounds, intensity_by, spectrum_by, analysis_by, level_by, bits_by}
use Rattle.rules_stereo.specs.Stereo.{StereoLeft, with_signal, lent_signal}
use Rattle.rules_line.specs.Line.{Step, stage_step}

-- ---- what each end of a call has, every end has

pub stage_ends : (l : Layout) (t : StageLent) (P : StageLeft → Type 0) → ((o : Outcome) → P (stage_kept t o))
    → ((o : Outcome) → P (stage_overwrite t (cleared l o)))
    → P (stage_overwrite t (delivery l (analysis_by l t))) → P (encode_frame l t)
unfolding encode_frame gate behind_gate after_level after_packing
stage_ends l t P keep clear done =
    let Q : Option Outcome → Type 0 = λ g. P (behind_gate g t (after_level l (analysis_by l t))) in
    let R : StageLeft → Type 0 = λ x. P (stage_overwrite t x) in
    cond_both Q (not (legal_layout l)) (λ _. keep _)
    (λ _. cond_both Q (not (stage_has_room l (stage_room t))) (λ _. keep _)
    (λ _. cond_both Q (ltb (intensity_by l t) (side_length l)) (λ _. keep _)
    (λ _. cond_both Q (ltb (spectrum_by l t) (spectrum_length l)) (λ _. keep _)
    (λ _. cond_both R (ltb 254 (level_by l t)) (λ _. clear _)
    (λ _. cond_both R (ltb (field_end l) (bits_by l t)) (λ _. clear _) (λ _. done))))))

-- ---- lengths

-- the work buffers and the frame's area are long enough
pub record Roomy (l : Layout) (t : StageLent) : Type 0 where
  pub scaled : spectrum_length l ≤ length t.scaled
  pub codes : spectrum_length l ≤ length t.codes
  pub factors : factor_length l ≤ length t.factors
  pub side : side_length l ≤ length t.side
  pub frame : frame_size l ≤ length t.frame

-- every buffer is as long as it was lent
pub record AsLong (t : StageLent) (x : StereoLeft) : Type 0 where
  pub spectra : length x.spectra ≡ length t.spectra
  pub intensities : length x.intensities ≡ length t.intensities
  pub scaled : length x.scaled ≡ length t.scaled
  pub codes : length x.codes ≡ length t.codes
  pub factors : length x.factors ≡ length t.factors
  pub side : length x.side ≡ length t.side
  pub frame : length x.frame ≡ length t.frame

-- every buffer is as it was lent
pub record AsLent (t : StageLent) (x : StereoLeft) : Type 0 where
  pub spectra : x.spectra ≡ t.spectra
  pub intensities : x.intensities ≡ t.intensities
  pub scaled : x.scaled ≡ t.scaled
  pub codes : x.codes ≡ t.codes
  pub factors : x.factors ≡ t.factors
  pub side : x.side ≡ t.side
  pub frame : x.frame ≡ t.frame

-- the stage's five buffers are zero over the stated lengths
pub record AsCleared (l : Layout) (t : StageLent) (x : StereoLeft) : Type 0 where
  pub scaled : x.scaled ≡ overwrite (no_floats l) t.scaled
  pub codes : x.codes ≡ overwrite (no_codes l) t.codes
  pub factors : x.factors ≡ overwrite (no_factors l) t.factors
  pub side : x.side ≡ overwrite (no_side l) t.side
  pub frame : x.frame ≡ overwrite (no_frame l) t.frame

-- answer, spectra, intensities and frame are those of another call
pub record SameCall (x y : StereoLeft) : Type 0 where
  pub outcome : x.outcome ≡ y.outcome
  pub spectra : x.spectra ≡ y.spectra
  pub intensities : x.intensities ≡ y.intensities
  pub frame : x.frame ≡ y.frame

-- What is known of a step: behind the line's gate it refuses with the numbers `late` alone, and of these those that `Keeps` has leave all as lent, those that
-- `Clears` has zeros; a frame that it delivers is the stage's.
pub record StepFacts (step : Step) (late : List ℕ) (Keeps Clears : ℕ → Type 0) : Type 0 where
  pub long : (l : Layout) → LegalLayout l → (t : StageLent) → Roomy l t → AsLong t (step l t)
  pub any_work : (l : Layout) (t u : StageLent) → t.spectra ≡ u.spectra → t.intensities ≡ u.intensities → t.frame ≡ u.frame
      → stage_has_room l (stage_room t) ≡ stage_has_room l (stage_room u) → SameCall (step l t) (step l u)
  pub bounds : (l : Layout) (t : StageLent) → StageBounded (step l t).outcome
  pub numbers : (l : Layout) (t : StageLent) → legal_layout l ≡ true → stage_has_room l (stage_room t) ≡ true → Numbered late (step l t).outcome
  pub not_early : (n : ℕ) → OneOf late n → OneOf (1 ∷ 18 ∷ 2 ∷ []) n → ⊥
  pub keeps : (l : Layout) (t : StageLent) (n k : ℕ) → (step l t).outcome ≡ refused n k → Keeps n → AsLent t (step l t)
  pub clears : (l : Layout) (t : StageLent) (n k : ℕ) → (step l t).outcome ≡ refused n k → Clears n → AsCleared l t (step l t)
  pub staged : (l : Layout) (t : StageLent) (ns : List ℕ) → (step l t).outcome ≡ delivered ns
      → (u : StageLent) × (step l t ≡ with_signal (lent_signal u) (encode_frame l u))

-- ---- the stage's lengths

laid_long : {A : Type 0} (n : ℕ) (new old : List A) → length new ≡ n → n ≤ length old → length (overwrite new old) ≡ length old
laid_long n new old e h = omega (arith, length-append new (drop (length new) old), length-drop (length new) old)

module _ (l : Layout) (z : LegalLayout l) (t : StageLent) (r : Roomy l t) where
  scaled-long : length (analysis_by l t).scaled ≡ spectrum_length l
  unfolding analysis analysis_from all_scaled
  scaled-long =
      let xs = take (spectrum_length l) t.spectra in
      length-blocks (λ c. channel_scaled (part 1024 xs c) (part 128 (all_factors l xs) c) (coded_count_at l c)) 1024 l.channels (λ c _. scaled-size _ _ _)
      l.channels (omega arith)

  abbrev Long : StageLeft → Type 0
  Long x = AsLong t (with_signal (lent_signal t) x)

  cleared-long : (o : Outcome) → Long (stage_overwrite t (cleared l o))
  cleared-long o = record {
    spectra = refl;
    intensities = refl;
    scaled = laid_long (spectrum_length l) (no_floats l) t.scaled (length-replicate (spectrum_length l) _) r.scaled;
    codes = laid_long (spectrum_length l) (no_codes l) t.codes (length-replicate (spectrum_length l) _) r.codes;
    factors = laid_long (factor_length l) (no_factors l) t.factors (length-replicate (factor_length l) 0) r.factors;
    side = laid_long (side_length l) (no_side l) t.side (length-replicate (side_length l) 0) r.side;
    frame = laid_long (frame_size l) (no_frame l) t.frame (length-replicate (frame_size l) 0) r.frame;
  }

  finished_long : Long (stage_overwrite t (delivery l (analysis_by l t)))
  unfolding delivery
  finished_long =
      let xs = take (spectrum_length l) t.spectra in
      let is = take (side_length l) t.intensities in
      record {
        spectra = refl;
        intensities = refl;
        scaled = laid_long (spectrum_length l) (analysis_by l t).scaled t.scaled scaled-long r.scaled;
        codes = laid_long (spectrum_length l) (analysis_by l t).codes t.codes (made_codes l xs is) r.codes;
        factors = laid_long (factor_length l) (analysis_by l t).found.factors t.factors (made_factors l xs is) r.factors;
        side = laid_long (side_length l) (analysis_by l t).side t.side (made_side l xs is) r.side;
        frame = laid_long (frame_size l) (frame_of l (stage_record l (analysis_by l t))) t.frame (frame-length l z (stage_record l (analysis_by l t))) r.frame;
      }

  kept-long : (o : Outcome) → Long (stage_kept t o)
  kept-long o = record { spectra = refl; intensities = refl; scaled = refl; codes = refl; factors = refl; side = refl; frame = refl }

  pub stage_long : Long (encode_frame l t)
  stage_long = stage_ends l t Long kept-long cleared-long finished_long

-- ---- any work buffers

-- all lengths are granted
pub room-granted : (l : Layout) (t : StageLent) → spectrum_length l ≤ length t.spectra → side_length l ≤ length t.intensities → Roomy l t
    → stage_has_room l (stage_room t) ≡ true
unfolding stage_has_room has_room
room-granted l t a b r =
    rw (le-leb _ _ a, le-leb _ _ b, le-leb _ _ r.scaled, le-leb _ _ r.factors, le-leb _ _ r.side, le-leb _ _ r.codes, le-leb _ _ r.frame)

gated_same : (g : Option Outcome) (t u : StageLent) (x : StageLeft) → t.spectra ≡ u.spectra → t.intensities ≡ u.intensities → t.frame ≡ u.frame
    → SameCall (with_signal (lent_signal t) (behind_gate g t x)) (with_signal (lent_signal u) (behind_gate g u x))
unfolding behind_gate
gated_same (some o) t u x a b e = record { outcome = refl; spectra = a; intensities = b; frame = e }
gated_same none t u x a b e = record { outcome = refl; spectra = a; intensities = b; frame = ap (λ ys. overwrite x.frame ys) e }

pub gate_same : (l : Layout) (r s : StageRoom) (t u : StageLent) → t.spectra ≡ u.spectra → t.intensities ≡ u.intensities
    → stage_has_room l r ≡ stage_has_room l s
    → gate l r t.spectra t.intensities ≡ gate l s u.spectra u.intensities
unfolding gate
gate_same l r s t u a b h = rw (a, b, h)

-- Answer and frame depend on spectra, intensities and the frame's area, and on the work buffers only by whether there is room.
stage_any_work : (l : Layout) (t u : StageLent) → t.spectra ≡ u.spectra → t.intensities ≡ u.intensities → t.frame ≡ u.frame
    → stage_has_room l (stage_room t) ≡ stage_has_room l (stage_room u) → SameCall (stage_step l t) (stage_step l u)
unfolding stage_step encode_frame
stage_any_work l t u a b c h =
    let g = gate_same l (stage_room t) (stage_room u) t u a b h in
    let m : after_level l (analysis_by l t) ≡ after_level l (analysis_by l u) =
    ap₂ (λ xs is. after_level l (analysis l (take (spectrum_length l) xs) (take (side_length l) is))) a b in
    let x = gated_same (gate l (stage_room u) u.spectra u.intensities) t u (after_level l (analysis_by l u)) a b c in
    record {
      outcome = ap₂ (λ o y. (behind_gate o t y).outcome) g m ∙ x.outcome;
      spectra = a;
      intensities = b;
      frame = ap₂ (λ o y. (behind_gate o t y).frame) g m ∙ x.frame;
    }

-- ---- a frame's numbers

-- Behind the line's gate a frame is refused with 3, 4, 5 or 7 only.
pub granted-numbers : (l : Layout) (t : StageLent) → legal_layout l ≡ true → stage_has_room l (stage_room t) ≡ true
    → Numbered (3 ∷ 4 ∷ 5 ∷ 7 ∷ []) (encode_frame l t).outcome
unfolding encode_frame gate behind_gate after_level after_packing delivery
granted-numbers l t a b =
    let late : List ℕ = 3 ∷ 4 ∷ 5 ∷ 7 ∷ [] in
    let Q : Option Outcome → Type 0 = λ g. Numbered late (behind_gate g t (after_level l (analysis_by l t))).outcome in
    let R : StageLeft → Type 0 = λ x. Numbered late x.outcome in
    rw (a, b)
    (cond_both Q (ltb (intensity_by l t) (side_length l)) (λ _. numbered late 3 _ tt)
    (λ _. cond_both Q (ltb (spectrum_by l t) (spectrum_length l)) (λ _. numbered late 4 _ tt)
    (λ _. cond_both R (ltb 254 (level_by l t)) (λ _. numbered late 5 _ tt)
    (λ _. cond_both R (ltb (field_end l) (bits_by l t)) (λ _. numbered late 7 _ tt) (λ _. unnumbered late _)))))

-- ---- all that a line asks of the stage

abbrev pub stage_late : List ℕ
stage_late = 3 ∷ 4 ∷ 5 ∷ 7 ∷ []

late_high : (n : ℕ) → OneOf stage_late n → (3 ≤ n) × (n ≤ 17)
late_high n (inl e) = (omega arith, omega arith)
late_high n (inr (inl e)) = (omega arith, omega arith)
late_high n (inr (inr (inl e))) = (omega arith, omega arith)
late_high n (inr (inr (inr e))) = (omega arith, omega arith)

pub early_apart : (n : ℕ) → OneOf (1 ∷ 18 ∷ 2 ∷ []) n → 3 ≤ n → n ≤ 17 → ⊥
early_apart n (inl e) h g = omega arith
early_apart n (inr (inl e)) h g = omega arith
early_apart n (inr (inr e)) h g = omega arith

pub stage_step_lem : StepFacts stage_step stage_late (λ n. n ≤ 4) (λ n. 5 ≤ n)
unfolding stage_step
stage_step_lem = record {
  long = λ l z t r. stage_long l z t r;
  any_work = stage_any_work;
  bounds = stage_bounds;
  numbers = granted-numbers;
  not_early = λ n h e. let (a, b) = late_high n h in early_apart n e a b;
  keeps = λ l t n k e h. let (a, b, c, d, f) = (refused-leaves l t n k e).0 h in
      record { spectra = refl; intensities = refl; scaled = a; codes = b; factors = c; side = d; frame = f };
  clears = λ l t n k e h. let (a, b, c, d, f) = (refused-leaves l t n k e).1 h in record { scaled = a; codes = b; factors = c; side = d; frame = f };
  staged = λ l t ns e. (t, refl);
}
