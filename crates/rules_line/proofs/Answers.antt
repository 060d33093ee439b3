-- What a frame's answer means for the line, for its answers' part and for the tally. Assumes nothing.
use mathlib.Core.Path.{◌≡◌, refl, sym, ◌∙◌, ap, subst}
use mathlib.Core.List.{List, [], ◌∷◌}
use mathlib.Core.Option.{some}
use Prim.Native.Nat.{ℕ, ◌*◌, ◌≤◌, ◌<◌, ◌^◌}
use native.Mathlib.Omega.{arith}
use lib.ListN.{length, set, take-append-drop}
use Rattle.std.specs.Prelude.{Result, Ok, Err, IfOk, OnErr}
use Rattle.std.specs.Result.{ForOk}
use Rattle.rules.specs.Lent.{overwrite}
use Rattle.rules.specs.Refusals.{Outcome, refused, stage_outcome}
use Rattle.rules.specs.declared.Delivery.{Delivery}
use Rattle.rules.specs.declared.StageRefusal.{StageRefusal}
use Rattle.rules.specs.declared.StageRefusal.TheVariants as stage
use Rattle.rules_stereo.specs.Stereo.{stereo_outcome}
use Rattle.rules_stereo.specs.declared.StereoRefusal.{StereoRefusal}
use Rattle.rules_stereo.specs.declared.StereoRefusal.TheVariants.{TooLoud, Stage}
use Rattle.rules_line.specs.Line.{part_overwrite, answers_of, tally_after, turn_outcome, turn_index}
use Rattle.rules_line.specs.Asked.{AnswersFit, delivered_outcome}
use Rattle.rules_line.specs.declared.Tally.{Tally}

-- each of four answers fits
pub four_fit : (d : Delivery) → AnswersFit (delivered_outcome d) → (d.level < 2 ^ 32) × (d.boundary < 2 ^ 32) × (d.pairs < 2 ^ 32) × (d.bits < 2 ^ 32)
unfolding AnswersFit answers_of stage_outcome
four_fit d h = (h 0, h 1, h 2, h 3)

pub four-stored : (xs : List ℕ) (a b c d : ℕ) → 4 ≤ length xs → set (set (set (set xs 0 a) 1 b) 2 c) 3 d ≡ overwrite (a ∷ b ∷ c ∷ d ∷ []) xs
four-stored [] a b c d h = absurd (omega arith)
four-stored (x ∷ []) a b c d h = absurd (omega arith)
four-stored (x ∷ y ∷ []) a b c d h = absurd (omega arith)
four-stored (x ∷ y ∷ z ∷ []) a b c d h = absurd (omega arith)
four-stored (x ∷ y ∷ z ∷ w ∷ xs) a b c d h = refl

-- ---- a refused frame ends the line at its index, is not counted, and stores no answers

pub data Refuses : Outcome → Type 0 where
  refuses : (number beside : ℕ) → Refuses (refused number beside)

pub stage_refuses : (r : StageRefusal) → Refuses (stage_outcome (Err r))
unfolding stage_outcome
stage_refuses stage.BadLayout = refuses 1 0
stage_refuses stage.ShortBuffer = refuses 2 0
stage_refuses (stage.BadIntensity i) = refuses 3 i
stage_refuses (stage.BadSpectrum i) = refuses 4 i
stage_refuses (stage.NoLevel pairs) = refuses 5 pairs
stage_refuses (stage.TooLong bits) = refuses 7 bits

pub stereo_refuses : (r : StereoRefusal) → Refuses (stereo_outcome (Err r))
unfolding stereo_outcome
stereo_refuses TooLoud = refuses 17 0
stereo_refuses (Stage r) = stage_refuses r

pub refused_ends : (o : Outcome) → Refuses o → (k : ℕ) → (o ≡ turn_outcome o) × (some k ≡ turn_index k o)
unfolding turn_outcome turn_index
refused_ends o (refuses number beside) k = (refl, refl)

pub not_counted : (o : Outcome) → Refuses o → (t : Tally) → t ≡ tally_after t o
unfolding tally_after
not_counted o (refuses number beside) t = refl

pub not-stored : (o : Outcome) → Refuses o → (k : ℕ) (xs : List ℕ) → xs ≡ part_overwrite 4 (answers_of o) xs k
unfolding answers_of
not-stored o (refuses number beside) k xs = sym (take-append-drop (k * 4) xs)

-- ---- a frame's answer, delivered or refused: what `store_answers` and `Tally::after` ask and leave, as its outcome says it

-- of any single call whose delivery has its own numbers
module _ {R : Type 0} (outcome : Result Delivery R → Outcome) (delivers : (d : Delivery) → outcome (Ok d) ≡ delivered_outcome d) where
  pub answer_fits : (answer : Result Delivery R) → AnswersFit (outcome answer) → ForOk answer (λ d. AnswersFit (delivered_outcome d))
  answer_fits answer fits d e = subst AnswersFit (ap outcome e ∙ delivers d) fits

  module _ (refuses-all : (r : R) → Refuses (outcome (Err r))) where
    pub answer-stored : (answer : Result Delivery R) (new old : List ℕ) → IfOk answer (λ d. new ≡ overwrite (answers_of (delivered_outcome d)) old)
        → OnErr answer (new ≡ old) → new ≡ overwrite (answers_of (outcome answer)) old
    answer-stored (Ok d) new old stored kept = stored ∙ ap (λ o. overwrite (answers_of o) old) (sym (delivers d))
    answer-stored (Err r) new old stored kept = kept ∙ not-stored (outcome (Err r)) (refuses-all r) 0 old

    pub answer_counted : (answer : Result Delivery R) (self result : Tally) → IfOk answer (λ d. result ≡ tally_after self (delivered_outcome d))
        → OnErr answer (result ≡ self) → result ≡ tally_after self (outcome answer)
    answer_counted (Ok d) self result counted kept = counted ∙ ap (tally_after self) (sym (delivers d))
    answer_counted (Err r) self result counted kept = kept ∙ not_counted (outcome (Err r)) (refuses-all r) self

-- of the stage
pub stage_fits : (answer : Result Delivery StageRefusal) → AnswersFit (stage_outcome answer) → ForOk answer (λ d. AnswersFit (delivered_outcome d))
stage_fits = answer_fits stage_outcome (λ d. refl)

pub stage-stored : (answer : Result Delivery StageRefusal) (new old : List ℕ) → IfOk answer (λ d. new ≡ overwrite (answers_of (delivered_outcome d)) old)
    → OnErr answer (new ≡ old) → new ≡ overwrite (answers_of (stage_outcome answer)) old
stage-stored = answer-stored stage_outcome (λ d. refl) stage_refuses

pub stage_counted : (answer : Result Delivery StageRefusal) (self result : Tally) → IfOk answer (λ d. result ≡ tally_after self (delivered_outcome d))
    → OnErr answer (result ≡ self) → result ≡ tally_after self (stage_outcome answer)
stage_counted = answer_counted stage_outcome (λ d. refl) stage_refuses

-- of the stereo stage
stereo_delivers : (d : Delivery) → stereo_outcome (Ok d) ≡ delivered_outcome d
unfolding stereo_outcome
stereo_delivers d = refl

pub stereo_fits : (answer : Result Delivery StereoRefusal) → AnswersFit (stereo_outcome answer) → ForOk answer (λ d. AnswersFit (delivered_outcome d))
stereo_fits = answer_fits stereo_outcome stereo_delivers

pub stereo-stored : (answer : Result Delivery StereoRefusal) (new old : List ℕ) → IfOk answer (λ d. new ≡ overwrite (answers_of (delivered_outcome d)) old)
    → OnErr answer (new ≡ old) → new ≡ overwrite (answers_of (stereo_outcome answer)) old
stereo-stored = answer-stored stereo_outcome stereo_delivers stereo_refuses

pub stereo_counted : (answer : Result Delivery StereoRefusal) (self result : Tally) → IfOk answer (λ d. result ≡ tally_after self (delivered_outcome d))
    → OnErr answer (result ≡ self) → result ≡ tally_after self (stereo_outcome answer)
stereo_counted = answer_counted stereo_outcome stereo_delivers stereo_refuses
