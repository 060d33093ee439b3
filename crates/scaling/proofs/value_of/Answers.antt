-- `scaling::value_of` meets its contract. Assumes nothing.
use mathlib.Core.Path.{ap, ◌∙◌}
use borrow.Author.Tests.{eq-eqb, ne_eqb}
use lib.Ieee.{Float, binary32, of_bits, neg, mul}
use Rattle.floats.specs.Single.{held_f}
use Rattle.rules.specs.Scaling.{clip, scaled_value}
use Rattle.scaling.proofs.value_of.Goals as goal

pub returns-then-factor-eq0 : goal.returns-then-factor-eq0
unfolding scaled_value of_bits
returns-then-factor-eq0 c = rw (eq-eqb _ _ c.if-factor-eq0.true)

pub returns-else-factor-eq0 : goal.returns-else-factor-eq0
unfolding scaled_value
returns-else-factor-eq0 c =
    rw (ne_eqb _ _ c.if-factor-eq0.false)
    (c.held-y.ensures ∙ ap (λ (k : Float). held_f (neg clip) clip (mul binary32 c.args.x k)) c.requires)
