-- What is stored of a line's answer and of its counts. Assumes nothing.
use mathlib.Core.Path.{◌≡◌, refl, sym, ◌∙◌, ap, subst}
use mathlib.Core.List.{List, []}
use mathlib.Core.Option.{Option}
use Prim.Native.Nat.{ℕ, ◌≤◌, ◌<◌}
use native.Mathlib.Omega.{arith}
use lib.Dec.{ltb}
use Rattle.std.specs.Prelude.{Err}
use lib.ListN.{length}
use Rattle.buffers.proofs.Tests.{cond_both}
use Rattle.rules.specs.Refusals.{Outcome, delivered, refused, stage_outcome}
use Rattle.rules.specs.declared.StageRefusal.{StageRefusal}
use Rattle.rules.specs.declared.StageRefusal.TheVariants as stage
use Rattle.rules_stereo.specs.Stereo.{stereo_outcome}
use Rattle.rules_stereo.specs.declared.StereoRefusal.{StereoRefusal}
use Rattle.rules_stereo.specs.declared.StereoRefusal.TheVariants.{TooLoud, Stage}
use Rattle.rules_line.specs.Line.{line_outcome_by, line_outcome, line_index, stereo_line_outcome}
use Rattle.rules_line.specs.declared.LineRefusal.{LineRefusal}
use Rattle.rules_line.specs.declared.LineRefusal.TheVariants.{BadLayout, BadBatch, ShortBuffer, Frame}
use Rattle.rules_line.proofs.Answers.{Refuses, refuses}
use Rattle.refusals.specs.Refusals.{refusal_of}
use Rattle.refusals.specs.declared.Refusal.{Refusal}
use Rattle.hca_answers.specs.Outcomes.{result_of, numbers_of, answer_after, Small, AnswerStored}
use Rattle.hca_answers.proofs.Fitting.{of-refused}
use Rattle.hca_encode.specs.EncodeLine.{index_in, LineSmall}

-- a delivery of no numbers
pub stored-none : (answer : List ℕ) → answer ≡ answer_after (delivered []) answer
unfolding answer_after numbers_of
stored-none answer = cond_both (λ (ys : List ℕ). answer ≡ ys) (ltb (length answer) 4) (λ _. refl) (λ _. refl)

-- no frame is named
pub unnamed_in : {R : Type 0} (r : LineRefusal R) (answer : List ℕ) → ((k : ℕ) (e : R) → r ≡ Frame k e → ⊥)
    → answer ≡ index_in (line_index {R = R} (Err r)) answer
unfolding index_in line_index
unnamed_in BadLayout answer h = refl
unnamed_in BadBatch answer h = refl
unnamed_in ShortBuffer answer h = refl
unnamed_in (Frame k e) answer h = absurd (h k e refl)

-- ---- a refusal

pub data Refusing : Outcome → Type 0 where
  refusing : (number beside : ℕ) → number ≤ 18 → Refusing (refused number beside)

stage_refusing : (r : StageRefusal) → Refusing (stage_outcome (Err r))
unfolding stage_outcome
stage_refusing stage.BadLayout = refusing 1 0 (omega arith)
stage_refusing stage.ShortBuffer = refusing 2 0 (omega arith)
stage_refusing (stage.BadIntensity i) = refusing 3 i (omega arith)
stage_refusing (stage.BadSpectrum i) = refusing 4 i (omega arith)
stage_refusing (stage.NoLevel pairs) = refusing 5 pairs (omega arith)
stage_refusing (stage.TooLong bits) = refusing 7 bits (omega arith)

stereo_refusing : (r : StereoRefusal) → Refusing (stereo_outcome (Err r))
unfolding stereo_outcome
stereo_refusing TooLoud = refusing 17 0 (omega arith)
stereo_refusing (Stage r) = stage_refusing r

refusing_by : {R : Type 0} (refusal : R → Outcome) → ((r : R) → Refusing (refusal r)) → (r : LineRefusal R) → Refusing (line_outcome_by refusal (Err r))
unfolding line_outcome_by
refusing_by refusal all BadLayout = refusing 1 0 (omega arith)
refusing_by refusal all BadBatch = refusing 18 0 (omega arith)
refusing_by refusal all ShortBuffer = refusing 2 0 (omega arith)
refusing_by refusal all (Frame k r) = all r

pub line_refusing : (r : LineRefusal StageRefusal) → Refusing (line_outcome (Err r))
line_refusing = refusing_by (λ r. stage_outcome (Err r)) stage_refusing

pub stereo_line_refusing : (r : LineRefusal StereoRefusal) → Refusing (stereo_line_outcome (Err r))
stereo_line_refusing = refusing_by (λ r. stereo_outcome (Err r)) stereo_refusing

-- a refusal's number is low, and by its number a refusal is one
pub low_number : (o : Outcome) (r : Refusal) → Refusing o → r ≡ refusal_of o → r.number ≤ 18
unfolding refusal_of
low_number o r (refusing number beside k) e = subst (λ (x : Refusal). x.number ≤ 18) (sym e) k

told_refusing : (o : Outcome) (r : Refusal) → Refuses o → r ≡ refusal_of o → r.number ≤ 18 → Refusing o
unfolding refusal_of
told_refusing o r (refuses number beside) e k = refusing number beside (subst (λ (x : Refusal). x.number ≤ 18) e k)

pub refusing_told : {R : Type 0} (refusal : R → Outcome) → ((r : R) → Refuses (refusal r)) → (e : LineRefusal R) (r : Refusal)
    → r ≡ refusal_of (line_outcome_by refusal (Err e)) → r.number ≤ 18 → Refusing (line_outcome_by refusal (Err e))
unfolding line_outcome_by
refusing_told refusal all BadLayout r e k = refusing 1 0 (omega arith)
refusing_told refusal all BadBatch r e k = refusing 18 0 (omega arith)
refusing_told refusal all ShortBuffer r e k = refusing 2 0 (omega arith)
refusing_told refusal all (Frame j f) r e k = told_refusing (refusal f) r (all f) e k

refusing_fits : (o : Outcome) (r : Refusal) → Refusing o → r ≡ refusal_of o → ((number beside : ℕ) → o ≡ refused number beside → beside < 4294967296)
    → (r.number < 4294967296) × (r.beside < 4294967296)
unfolding refusal_of
refusing_fits o r (refusing number beside k) e h =
    subst (λ (x : Refusal). (x.number < 4294967296) × (x.beside < 4294967296)) (sym e) (omega arith, h number beside refl)

refusing_stored : (o : Outcome) (r : Refusal) (result : ℕ) (before after : List ℕ) → Refusing o → r ≡ refusal_of o
    → AnswerStored (refused r.number r.beside) result before after → AnswerStored o result before after
unfolding refusal_of
refusing_stored o r result before after (refusing number beside k) e h =
    subst (λ (x : Refusal). AnswerStored (refused x.number x.beside) result before after) e h

module _ (o : Outcome) (i : Option ℕ) (r : Refusal) (g : Refusing o) (s : LineSmall o i) (e : r ≡ refusal_of o) where
  pub line_fits : (r.number < 4294967296) × (r.beside < 4294967296)
  line_fits = refusing_fits o r g e (λ number beside q. of-refused number beside (subst Small q s.numbers))

  pub line_stored : (result : ℕ) (before named after : List ℕ) → named ≡ index_in i before
      → AnswerStored (refused r.number r.beside) result named after → (result ≡ result_of o) × (after ≡ answer_after o (index_in i before))
  line_stored result before named after q t =
      let u = refusing_stored o r result named after g e t in
      (u.answered, u.shown ∙ ap (answer_after o) q)
