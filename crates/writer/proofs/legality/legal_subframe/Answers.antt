-- `writer::legality::legal_subframe` judges each code. Assumes nothing.
use mathlib.Core.Path.{◌≡◌, sym, ap, ◌∙◌}
use native.Mathlib.Omega.{arith}
use Rattle.buffers.specs.Walk.{every}
use Rattle.buffers.proofs.Every.{every-none, every_more, every_fails}
use Rattle.rules.specs.Record.{legal_band, legal_subframe}
use Rattle.writer.proofs.Ranges.{band_judged}
use Rattle.writer.proofs.legality.legal_subframe.Goals as goal

pub loop-b-init : goal.loop-b-init
loop-b-init c = every-none _

pub loop-b-preserved : goal.loop-b-preserved
loop-b-preserved c =
    every_more _ _ c.loop-b.invariant
    (sym (band_judged c.args.resolutions.now c.args.codes.now c.loop-b.b (omega arith) c.legal_code.ensures) ∙ c.if-not-legal_code.false)

pub returns-then-not-legal_code : goal.returns-then-not-legal_code
unfolding legal_subframe
returns-then-not-legal_code c =
    sym (every_fails _ _ _ c.loop-b-test.true
    (sym (band_judged c.args.resolutions.now c.args.codes.now c.loop-b.b (omega arith) c.legal_code.ensures) ∙ c.if-not-legal_code.true))

pub returns : goal.returns
unfolding legal_subframe
returns c =
    let a = c.args in
    let e : c.loop-b.b ≡ 128 = omega arith in
    sym (ap (every (legal_band a.resolutions.now a.codes.now)) (sym e) ∙ c.loop-b.invariant)
