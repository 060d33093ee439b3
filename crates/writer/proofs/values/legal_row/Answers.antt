-- `writer::values::legal_row` judges each value. Assumes nothing.
use mathlib.Core.Path.{◌≡◌, sym, ap, ◌∙◌}
use native.Mathlib.Omega.{arith}
use lib.ListN.{length}
use Rattle.buffers.specs.Walk.{every}
use Rattle.buffers.proofs.Every.{every-none, every_more, every_fails}
use Rattle.rules.specs.Record.{legal_row}
use Rattle.writer.proofs.values.legal_row.Invariants.{legal}
use Rattle.writer.proofs.values.legal_row.Goals as goal

pub loop-i-init : goal.loop-i-init
loop-i-init c = every-none _

pub loop-i-preserved : goal.loop-i-preserved
loop-i-preserved c = every_more _ _ c.loop-i.invariant (sym c.legal_value.ensures ∙ c.if-not-legal_value.false)

pub returns-then-not-legal_value : goal.returns-then-not-legal_value
unfolding legal_row
returns-then-not-legal_value c = sym (every_fails _ _ _ (omega arith) (sym c.legal_value.ensures ∙ c.if-not-legal_value.true))

pub returns : goal.returns
unfolding legal_row
returns c =
    let a = c.args in
    let e : c.loop-i.i ≡ length a.values.now = omega arith in
    sym (ap (every (legal a.n a.limit a.values.now)) (sym e) ∙ c.loop-i.invariant)
