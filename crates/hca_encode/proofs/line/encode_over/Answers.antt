-- `hca_encode::line::encode_over` meets its contract. Assumes nothing.
use mathlib.Core.Path.{sym, ◌∙◌}
use Rattle.hca_layout.proofs.Naming.{named_five}
use Rattle.hca_encode.proofs.LineStores.{line_unnamed, line_batch, line_few, line_short, line_done}
use Rattle.hca_encode.proofs.line.encode_over.Goals as goal

pub returns-then-not-is_layout-clause-told : goal.returns-then-not-is_layout-clause-told
returns-then-not-is_layout-clause-told g c =
    line_unnamed g.S.SingleCall.step c.args.layout.now c.args.kinds.now c.args.count (g.S.SingleCall.spectra c.args.call.now)
    (g.S.SingleCall.intensities c.args.call.now) c.args.scaled.now c.args.codes.now c.args.factors.now c.args.side.now c.args.frames.now
    c.args.answers.now c.args.tally.now c.args.answer.now _ _ (sym c.is_layout.ensures ∙ c.if-not-is_layout.true) c.refuse.ensures

pub returns-then-not-batch_fits-clause-told : goal.returns-then-not-batch_fits-clause-told
returns-then-not-batch_fits-clause-told g c =
    line_batch g.S.SingleCall.step c.args.layout.now c.args.kinds.now c.args.count (g.S.SingleCall.spectra c.args.call.now)
    (g.S.SingleCall.intensities c.args.call.now) c.args.scaled.now c.args.codes.now c.args.factors.now c.args.side.now c.args.frames.now
    c.args.answers.now c.args.tally.now c.args.answer.now (sym c.is_layout.ensures ∙ c.if-not-is_layout.false) _ c.tally_in-before.ensures _ _
    (sym c.batch_fits.ensures ∙ c.if-not-batch_fits.true) c.refuse-then-not-batch_fits.ensures

pub returns-then-tally-lt3-clause-told : goal.returns-then-tally-lt3-clause-told
returns-then-tally-lt3-clause-told g c =
    line_few g.S.SingleCall.step c.args.layout.now c.args.kinds.now c.args.count (g.S.SingleCall.spectra c.args.call.now)
    (g.S.SingleCall.intensities c.args.call.now) c.args.scaled.now c.args.codes.now c.args.factors.now c.args.side.now c.args.frames.now
    c.args.answers.now c.args.tally.now c.args.answer.now (sym c.is_layout.ensures ∙ c.if-not-is_layout.false) _ c.tally_in-before.ensures
    (sym c.batch_fits.ensures ∙ c.if-not-batch_fits.false) _ _ c.if-tally-lt3.true c.refuse-then-tally-lt3.ensures

pub returns-then-answer-lt4-clause-told : goal.returns-then-answer-lt4-clause-told
returns-then-answer-lt4-clause-told g c =
    line_short g.S.SingleCall.step c.args.layout.now c.args.kinds.now c.args.count (g.S.SingleCall.spectra c.args.call.now)
    (g.S.SingleCall.intensities c.args.call.now) c.args.scaled.now c.args.codes.now c.args.factors.now c.args.side.now c.args.frames.now
    c.args.answers.now c.args.tally.now c.args.answer.now (sym c.is_layout.ensures ∙ c.if-not-is_layout.false) _ c.tally_in-before.ensures
    (sym c.batch_fits.ensures ∙ c.if-not-batch_fits.false) c.if-tally-lt3.false c.if-answer-lt4.true

pub layout_of-l-requires : goal.layout_of-l-requires
layout_of-l-requires g c = named_five _ _ (sym c.is_layout.ensures ∙ c.if-not-is_layout.false)

pub returns-clause-told : goal.returns-clause-told
returns-clause-told g c =
    line_done g.S.SingleCall.step c.args.layout.now c.args.kinds.now c.args.count (g.S.SingleCall.spectra c.args.call.now)
    (g.S.SingleCall.intensities c.args.call.now) c.args.scaled.now c.args.codes.now c.args.factors.now c.args.side.now c.args.frames.now
    c.args.answers.now c.args.tally.now c.args.answer.now (sym c.is_layout.ensures ∙ c.if-not-is_layout.false) _ c.tally_in-before.ensures
    (sym c.batch_fits.ensures ∙ c.if-not-batch_fits.false) _ _ c.layout_of-l.ensures c.if-tally-lt3.false c.if-answer-lt4.false
    c.line_and_store.ensures.told
