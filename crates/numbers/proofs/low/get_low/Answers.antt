use native.Mathlib.Omega.{arith}
use borrow.Author.Rules.{rules}
use Rattle.numbers.proofs.LowFirst.{met_none, met_more, met_fits}
use Rattle.numbers.proofs.low.get_low.Goals as goal

pub loop-left-init : goal.loop-left-init
loop-left-init c = met_none _ _ _ c.requires.0

pub overflow_mul-number : goal.overflow_mul-number
overflow_mul-number c =
    record { fits = omega (arith, met_fits _ _ _ c.requires.0 _ _ 0 c.requires.1 c.loop-left-test.true c.loop-left.invariant (omega arith)) }

pub overflow_add-number : goal.overflow_add-number
overflow_add-number c =
    record { fits = met_fits _ _ _ c.requires.0 _ _ _ c.requires.1 c.loop-left-test.true c.loop-left.invariant (search rules) }

pub loop-left-preserved : goal.loop-left-preserved
loop-left-preserved c =
    met_more _ _ _ c.requires.0 _ c.loop-left.left _ c.loop-left-test.true c.loop-left.invariant (search rules) (search rules)
