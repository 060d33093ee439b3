-- `widths::calculate_optimal_delta_length` meets its contract. The invariant: the first factor and the index's after it are walked. Assumes nothing.
use Rattle.widths.proofs.Walks.{Walked}
use Rattle.widths.proofs.calculate_optimal_delta_length.Given as goal

abbrev pub invariant-loop-factor : goal.invariant-loop-factor
invariant-loop-factor l = Walked l.factors l.n l.factor-index l.walk
