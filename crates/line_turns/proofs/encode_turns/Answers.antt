use mathlib.Core.Path.{sym, ◌∙◌, ap, subst}
use native.Mathlib.Omega.{arith}
use Rattle.std.specs.Prelude.{Err}
use Rattle.std.proofs.lemmas.Result.{err_from_is_err_and}
use Rattle.rules_line.specs.Line.{line_outcome_by, line_index, line_lent, left_with}
use Rattle.line_turns.proofs.Going.{Stopping, line_stopping, going_none, going_counts, going_more, going_stop, going_all}
use Rattle.line_turns.proofs.encode_turns.Goals as goal

pub loop-k-init : goal.loop-k-init
loop-k-init g c = (
  going_none _ _ (line_lent (g.S.SingleCall.spectra c.args.call.now) (g.S.SingleCall.intensities c.args.call.now) c.args.scaled.now c.args.codes.now
      c.args.factors.now c.args.side.now c.args.frames.now c.args.answers.now c.args.tally.now),
  g.met.S.SingleCall.same_none _,
)

pub encode_turn-requires-clause-on_the_way : goal.encode_turn-requires-clause-on_the_way
encode_turn-requires-clause-on_the_way g c =
    going_counts _ _ _ _ _ _ _ _ _ _ _ _ _ c.loop-k.invariant.0 c.args.count c.requires.batch c.requires.line_has_room c.loop-k-test.true
    g.met.S.SingleCall.bounded

pub returns-in_err-encode_turn-clause-after : goal.returns-in_err-encode_turn-clause-after
returns-in_err-encode_turn-clause-after g c =
    let s = g.S.SingleCall in
    let r = c.encode_turn in
    let p = err_from_is_err_and c.from_residual.result c.from_residual.ensures.1 in
    let w = c.in_err-encode_turn.was in
    ap (λ a. left_with (line_outcome_by s.refusal a) (line_index a) r.new.tally (s.spectra r.new.call) (s.intensities r.new.call) r.new.scaled r.new.codes
    r.new.factors r.new.side r.new.frames r.new.answers) (p.1 ∙ ap Err p.2 ∙ sym w)
    ∙ going_stop _ _ _ _ _ _ _ _ _ _ _ _ _ c.loop-k.invariant.0 _ _ _ _ _ _ _ _ _ _ _ r.ensures.turned c.args.count c.loop-k-test.true
    (subst (λ a. Stopping (line_outcome_by s.refusal a) (line_index a)) (sym w) (line_stopping s.refusal _))

pub returns-in_err-encode_turn-clause-same_loan : goal.returns-in_err-encode_turn-clause-same_loan
returns-in_err-encode_turn-clause-same_loan g c = g.met.S.SingleCall.same_more _ _ _ c.loop-k.invariant.1 c.encode_turn.ensures.same_loan

pub loop-k-preserved : goal.loop-k-preserved
unfolding line_outcome_by line_index
loop-k-preserved g c =
    let r = c.encode_turn in
    let w = c.in_ok-encode_turn.was in
    let long = g.met.S.SingleCall.same_long _ _ r.ensures.same_loan in (
      going_more _ _ _ _ _ _ _ _ _ _ _ _ _ c.loop-k.invariant.0 _ _ _ _ _ _ _ _ _ _ _ r.ensures.turned (ap (line_outcome_by g.S.SingleCall.refusal) w)
          (ap line_index w) long.0 long.1 r.auto.scaled r.auto.codes r.auto.factors r.auto.side r.auto.frames r.auto.answers,
      g.met.S.SingleCall.same_more _ _ _ c.loop-k.invariant.1 r.ensures.same_loan,
    )

pub returns-clause-after : goal.returns-clause-after
unfolding line_outcome_by line_index
returns-clause-after g c =
    going_all _ _ _ _ _ _ _ _ _ _ _ _ _ c.loop-k.invariant.0 c.args.count (omega (arith, c.loop-k-test.false, c.loop-k.auto.k-end))
