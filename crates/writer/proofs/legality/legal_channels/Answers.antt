-- `writer::legality::legal_channels` judges each channel. Assumes nothing.
use mathlib.Core.Path.{◌≡◌, sym, ap, ◌∙◌}
use native.Mathlib.Omega.{arith}
use Rattle.buffers.specs.Walk.{every}
use Rattle.buffers.proofs.Every.{every-none, every_more, every_fails}
use Rattle.rules.specs.Record.{legal_channels}
use Rattle.writer.proofs.legality.legal_channels.Invariants.{legal}
use Rattle.writer.proofs.legality.legal_channels.Goals as goal

pub loop-c-init : goal.loop-c-init
loop-c-init c = every-none _

pub loop-c-preserved : goal.loop-c-preserved
loop-c-preserved c =
    let a = c.args in
    let j : c.legal_channel.result ≡ legal a.layout a.factors.now a.side.now a.codes.now a.resolutions.now c.loop-c.c =
    c.legal_channel.ensures ∙ rw (c.part_of-row.ensures.0, c.part_of-sides.ensures.0, c.part_of-rows.ensures.0, c.part_of-ranges.ensures.0) in
    every_more _ _ c.loop-c.invariant (sym j ∙ c.if-not-legal_channel.false)

pub returns-then-not-legal_channel : goal.returns-then-not-legal_channel
unfolding legal_channels
returns-then-not-legal_channel c =
    let a = c.args in
    let j : c.legal_channel.result ≡ legal a.layout a.factors.now a.side.now a.codes.now a.resolutions.now c.loop-c.c =
    c.legal_channel.ensures ∙ rw (c.part_of-row.ensures.0, c.part_of-sides.ensures.0, c.part_of-rows.ensures.0, c.part_of-ranges.ensures.0) in
    sym (every_fails _ _ _ c.loop-c-test.true (sym j ∙ c.if-not-legal_channel.true))

pub returns : goal.returns
unfolding legal_channels
returns c =
    let a = c.args in
    let e : c.loop-c.c ≡ a.layout.channels = omega arith in
    sym (ap (every (legal a.layout a.factors.now a.side.now a.codes.now a.resolutions.now)) (sym e) ∙ c.loop-c.invariant)
