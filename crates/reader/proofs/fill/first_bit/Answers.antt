-- `first_bit` passes bits that are 0. Assumes nothing.
use mathlib.Core.Path.{sym, ◌∙◌}
use native.Mathlib.Omega.{arith}
use Rattle.reader.proofs.Zeros.{bit_zero, bit_one}
use Rattle.reader.proofs.fill.first_bit.Goals as goal

pub returns-then-look-ne0 : goal.returns-then-look-ne0
returns-then-look-ne0 c = record {
  within = omega arith;
  zeros = c.loop-at.invariant;
  one = bit_one c.args.part.now c.loop-at.at (omega arith) (λ e. c.if-look-ne0.true (c.look.ensures.0 ∙ e));
}

pub loop-at-preserved : goal.loop-at-preserved
loop-at-preserved c = c.loop-at.invariant ∙ bit_zero c.args.part.now c.loop-at.at (omega arith) (sym c.look.ensures.0 ∙ c.if-look-ne0.false)
