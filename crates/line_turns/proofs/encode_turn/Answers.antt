-- `line_turns::encode_turn` meets its contract. Assumes nothing.
use mathlib.Core.Path.{refl, sym, ◌∙◌, ap, subst}
use Rattle.rules.specs.Refusals.{stage_outcome}
use Rattle.rules_stereo.specs.Stereo.{StereoLeft}
use Rattle.rules_line.specs.Line.{line_outcome_by, line_index, turn_outcome, turn_index}
use Rattle.rules_line.specs.Asked.{AnswersFit}
use Rattle.rules_line.proofs.Answers.{refused_ends, answer_fits, answer-stored, answer_counted}
use Rattle.line_turns.specs.Turn.{call_outcome}
use Rattle.line_turns.proofs.Counts.{at-fits}
use Rattle.line_turns.proofs.Placed.{turned}
use Rattle.line_turns.proofs.encode_turn.Goals as goal

pub store_answers-requires-clause-answers_fit : goal.store_answers-requires-clause-answers_fit
unfolding call_outcome
store_answers-requires-clause-answers_fit g c =
    answer_fits (call_outcome g.S.SingleCall.refusal) (λ d. refl) _
    (subst AnswersFit (sym (ap (λ (x : StereoLeft). x.outcome) c.encode_part-answer.ensures.placed)) (at-fits _ g.met.S.SingleCall.bounded _ _ _))

pub after-requires-clause-answers_fit : goal.after-requires-clause-answers_fit
unfolding call_outcome
after-requires-clause-answers_fit g c =
    answer_fits (call_outcome g.S.SingleCall.refusal) (λ d. refl) _
    (subst AnswersFit (sym (ap (λ (x : StereoLeft). x.outcome) c.encode_part-answer.ensures.placed)) (at-fits _ g.met.S.SingleCall.bounded _ _ _))

pub returns-in-Ok-clause-turned : goal.returns-in-Ok-clause-turned
unfolding call_outcome stage_outcome turn_outcome turn_index line_outcome_by line_index
returns-in-Ok-clause-turned g c =
    let s = g.S.SingleCall in
    let answer = c.encode_part-answer.result in
    let refuses = g.met.S.SingleCall.refuses in
    turned c.args.k _ (call_outcome s.refusal answer) _ _ _ _ _ _ _ _ _ _ _ _ c.args.answers.now _ c.part_start-n.ensures
    c.encode_part-answer.ensures.placed
    (answer-stored (call_outcome s.refusal) (λ d. refl) refuses answer _ _ c.store_answers.ensures.stored c.store_answers.ensures.kept)
    (answer_counted (call_outcome s.refusal) (λ d. refl) refuses answer _ _ c.after.ensures.counted c.after.ensures.kept)
    (ap (λ a. turn_outcome (call_outcome s.refusal a)) (sym c.in-Ok.is)) (ap (λ a. turn_index c.args.k (call_outcome s.refusal a)) (sym c.in-Ok.is))

pub returns-in-Err-clause-turned : goal.returns-in-Err-clause-turned
unfolding call_outcome line_outcome_by line_index
returns-in-Err-clause-turned g c =
    let s = g.S.SingleCall in
    let answer = c.encode_part-answer.result in
    let refuses = g.met.S.SingleCall.refuses in
    let ends = refused_ends (s.refusal c.in-Err.e) (refuses c.in-Err.e) c.args.k in
    turned c.args.k _ (call_outcome s.refusal answer) _ _ _ _ _ _ _ _ _ _ _ _ c.args.answers.now _ c.part_start-n.ensures
    c.encode_part-answer.ensures.placed
    (answer-stored (call_outcome s.refusal) (λ d. refl) refuses answer _ _ c.store_answers.ensures.stored c.store_answers.ensures.kept)
    (answer_counted (call_outcome s.refusal) (λ d. refl) refuses answer _ _ c.after.ensures.counted c.after.ensures.kept)
    (ends.0 ∙ ap (λ a. turn_outcome (call_outcome s.refusal a)) (sym c.in-Err.is))
    (ends.1 ∙ ap (λ a. turn_index c.args.k (call_outcome s.refusal a)) (sym c.in-Err.is))
