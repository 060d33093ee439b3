-- `resolutions::noise_curve::place_of` meets its contract. Assumes nothing.
use borrow.Author.Tests.{eq-eqb, ne_eqb}
use Rattle.resolutions.specs.Stretched.{place_of}
use borrow.Author.Rules.{rules}
use Rattle.resolutions.proofs.noise_curve.place_of.Goals as goal

pub returns-then-factor-eq0 : goal.returns-then-factor-eq0
unfolding place_of
returns-then-factor-eq0 c = (rw (eq-eqb _ _ c.if-factor-eq0.true), search rules)

pub returns-else-factor-eq0 : goal.returns-else-factor-eq0
unfolding place_of
returns-else-factor-eq0 c = (rw (ne_eqb _ _ c.if-factor-eq0.false), search rules)
