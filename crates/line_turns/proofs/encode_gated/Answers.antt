-- `line_turns::encode_gated` meets its contract: what the gate refuses is kept, and behind it the frames are tried. Assumes nothing.
use mathlib.Core.Path.{sym, ◌∙◌, ap}
use Rattle.std.specs.Prelude.{Err}
use Rattle.std.proofs.lemmas.Result.{err_from_is_err_and}
use Rattle.rules_line.specs.Line.{line_lent, left_with, line_outcome_by, line_index}
use Rattle.line_gate.specs.Gate.{line_gate_outcome}
use Rattle.line_turns.proofs.Entries.{line_refuses, line_admits, line_runs}
use Rattle.line_turns.proofs.encode_gated.Goals as goal

pub returns-in_err-line_gate-clause-over : goal.returns-in_err-line_gate-clause-over
returns-in_err-line_gate-clause-over g c =
    let s = g.S.SingleCall in
    let t = line_lent (g.S.SingleCall.spectra c.args.call.now) (g.S.SingleCall.intensities c.args.call.now) c.args.scaled.now c.args.codes.now
    c.args.factors.now c.args.side.now c.args.frames.now c.args.answers.now c.args.tally.now in
    let p = err_from_is_err_and c.from_residual.result c.from_residual.ensures.1 in
    let gate = rw (c.lengths-spectra.ensures.0, c.lengths-spectra.ensures.1) at c.line_gate.ensures in
    ap (λ a. left_with (line_outcome_by s.refusal a) (line_index a) t.tally t.spectra t.intensities t.scaled t.codes t.factors t.side t.frames t.answers)
    (p.1 ∙ ap Err p.2)
    ∙ line_refuses s.refusal s.step c.args.layout c.args.count t _ (ap line_gate_outcome (sym c.in_err-line_gate.was) ∙ gate)

pub encode_turns-requires-clause-legal_layout : goal.encode_turns-requires-clause-legal_layout
encode_turns-requires-clause-legal_layout g c =
    let t = line_lent (g.S.SingleCall.spectra c.args.call.now) (g.S.SingleCall.intensities c.args.call.now) c.args.scaled.now c.args.codes.now
    c.args.factors.now c.args.side.now c.args.frames.now c.args.answers.now c.args.tally.now in
    let gate = rw (c.lengths-spectra.ensures.0, c.lengths-spectra.ensures.1) at c.line_gate.ensures in
    (line_admits g.S.SingleCall.refusal g.S.SingleCall.step c.args.layout c.args.count t _ (ap line_gate_outcome (sym c.in_ok-line_gate.was) ∙ gate)).layout

pub encode_turns-requires-clause-batch : goal.encode_turns-requires-clause-batch
encode_turns-requires-clause-batch g c =
    let t = line_lent (g.S.SingleCall.spectra c.args.call.now) (g.S.SingleCall.intensities c.args.call.now) c.args.scaled.now c.args.codes.now
    c.args.factors.now c.args.side.now c.args.frames.now c.args.answers.now c.args.tally.now in
    let gate = rw (c.lengths-spectra.ensures.0, c.lengths-spectra.ensures.1) at c.line_gate.ensures in
    (line_admits g.S.SingleCall.refusal g.S.SingleCall.step c.args.layout c.args.count t _ (ap line_gate_outcome (sym c.in_ok-line_gate.was) ∙ gate)).batch

pub encode_turns-requires-clause-line_has_room : goal.encode_turns-requires-clause-line_has_room
encode_turns-requires-clause-line_has_room g c =
    let t = line_lent (g.S.SingleCall.spectra c.args.call.now) (g.S.SingleCall.intensities c.args.call.now) c.args.scaled.now c.args.codes.now
    c.args.factors.now c.args.side.now c.args.frames.now c.args.answers.now c.args.tally.now in
    let gate = rw (c.lengths-spectra.ensures.0, c.lengths-spectra.ensures.1) at c.line_gate.ensures in
    (line_admits g.S.SingleCall.refusal g.S.SingleCall.step c.args.layout c.args.count t _ (ap line_gate_outcome (sym c.in_ok-line_gate.was) ∙ gate)).room

pub returns-clause-over : goal.returns-clause-over
returns-clause-over g c =
    let t = line_lent (g.S.SingleCall.spectra c.args.call.now) (g.S.SingleCall.intensities c.args.call.now) c.args.scaled.now c.args.codes.now
    c.args.factors.now c.args.side.now c.args.frames.now c.args.answers.now c.args.tally.now in
    let gate = rw (c.lengths-spectra.ensures.0, c.lengths-spectra.ensures.1) at c.line_gate.ensures in
    line_runs g.S.SingleCall.refusal g.S.SingleCall.step c.args.layout c.args.count t _ (ap line_gate_outcome (sym c.in_ok-line_gate.was) ∙ gate) _
    c.encode_turns.ensures.after
