-- `line_gate::batch_fits` meets its contract. Assumes nothing.
use borrow.Author.Rules.{rules}
use Rattle.rules_line.specs.Line.{batch_fits}
use Rattle.line_gate.proofs.batch_fits.Goals as goal

pub returns-then-tally-le-COUNT_LIMIT-2 : goal.returns-then-tally-le-COUNT_LIMIT-2
unfolding batch_fits
returns-then-tally-le-COUNT_LIMIT-2 c = search rules

pub returns-else-tally-le-COUNT_LIMIT-2 : goal.returns-else-tally-le-COUNT_LIMIT-2
unfolding batch_fits
returns-else-tally-le-COUNT_LIMIT-2 c = search rules
