-- `hca_encode::line::store_line` meets its contract. Assumes nothing.
use mathlib.Core.Path.{sym, ◌∙◌, ap, subst}
use Rattle.rules_line.specs.Line.{line_outcome_by, line_index}
use Rattle.hca_answers.specs.Outcomes.{result_of}
use Rattle.hca_encode.specs.EncodeLine.{index_in, line_answer_after, IndexFits, LineSmall}
use Rattle.hca_encode.proofs.LinePlaces.{stored-none, refusing_told, line_fits, line_stored}
use Rattle.hca_encode.proofs.line.store_line.Goals as goal

pub returns-in-Ok : goal.returns-in-Ok
unfolding line_outcome_by line_index result_of index_in
returns-in-Ok g c = record { answered = rw c.in-Ok.is; shown = rw c.in-Ok.is (stored-none _) }

pub name_frame-requires : goal.name_frame-requires
name_frame-requires g c = subst (λ a. IndexFits (line_index a)) c.in-Err.is c.requires.index

pub tell-requires : goal.tell-requires
tell-requires g c =
    let s = g.S.SingleCall in
    let small = subst (λ a. LineSmall (line_outcome_by s.refusal a) (line_index a)) c.in-Err.is c.requires in
    line_fits _ _ _ (refusing_told s.refusal g.met.S.SingleCall.refuses _ _ c.told.ensures.said c.told.ensures.low) small c.told.ensures.said

pub returns-in-Err-clause-answered : goal.returns-in-Err-clause-answered
returns-in-Err-clause-answered g c =
    let s = g.S.SingleCall in
    let small = subst (λ a. LineSmall (line_outcome_by s.refusal a) (line_index a)) c.in-Err.is c.requires in
    let refusing = refusing_told s.refusal g.met.S.SingleCall.refuses _ _ c.told.ensures.said c.told.ensures.low in
    let stored = line_stored _ _ _ refusing small c.told.ensures.said _ _ _ _ c.name_frame.ensures c.tell.ensures in
    stored.0 ∙ ap (λ a. result_of (line_outcome_by s.refusal a)) (sym c.in-Err.is)

pub returns-in-Err-clause-shown : goal.returns-in-Err-clause-shown
returns-in-Err-clause-shown g c =
    let s = g.S.SingleCall in
    let small = subst (λ a. LineSmall (line_outcome_by s.refusal a) (line_index a)) c.in-Err.is c.requires in
    let refusing = refusing_told s.refusal g.met.S.SingleCall.refuses _ _ c.told.ensures.said c.told.ensures.low in
    let stored = line_stored _ _ _ refusing small c.told.ensures.said _ _ _ _ c.name_frame.ensures c.tell.ensures in
    stored.1 ∙ ap (λ a. line_answer_after (line_outcome_by s.refusal a) (line_index a) c.args.answer.now) (sym c.in-Err.is)
