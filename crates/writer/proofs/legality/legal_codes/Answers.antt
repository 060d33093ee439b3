-- `writer::legality::legal_codes` judges each subframe. Assumes nothing.
use mathlib.Core.Path.{◌≡◌, sym, ap, ◌∙◌}
use native.Mathlib.Omega.{arith}
use Prim.Native.Nat.{◌<◌}
use Rattle.buffers.specs.Walk.{every}
use Rattle.buffers.proofs.Every.{every-none, every_more, every_fails}
use Rattle.rules.specs.Record.{legal_codes}
use Rattle.writer.proofs.Chunks.{subframe_judged}
use Rattle.writer.proofs.legality.legal_codes.Invariants.{legal}
use Rattle.writer.proofs.legality.legal_codes.Goals as goal

pub loop-subframe-init : goal.loop-subframe-init
loop-subframe-init c = every-none _

pub loop-subframe-preserved : goal.loop-subframe-preserved
loop-subframe-preserved c =
    let a = c.args in
    every_more _ _ c.loop-subframe.invariant
    (subframe_judged a.resolutions.now a.codes.now c.loop-subframe.subframe-index c.as_chunks.ensures.front (omega arith) c.legal_subframe.ensures
    ∙ c.if-not-legal_subframe.false)

pub returns-then-not-legal_subframe : goal.returns-then-not-legal_subframe
unfolding legal_codes
returns-then-not-legal_subframe c =
    let a = c.args in
    let l : c.loop-subframe.subframe-index < 8 = omega arith in
    sym (every_fails _ _ _ l
    (subframe_judged a.resolutions.now a.codes.now c.loop-subframe.subframe-index c.as_chunks.ensures.front (omega arith) c.legal_subframe.ensures
    ∙ c.if-not-legal_subframe.true))

pub returns : goal.returns
unfolding legal_codes
returns c =
    let a = c.args in
    let e : c.loop-subframe.subframe-index ≡ 8 = omega arith in
    sym (ap (every (legal a.resolutions.now a.codes.now)) (sym e) ∙ c.loop-subframe.invariant)
