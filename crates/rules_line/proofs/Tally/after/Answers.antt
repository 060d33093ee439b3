-- `rules_line::Tally::after` meets its contract. Assumes nothing.
use Rattle.rules.specs.Refusals.{stage_outcome}
use Rattle.rules_line.specs.Line.{tally_after}
use Rattle.rules_line.proofs.Answers.{four_fit}
use Rattle.rules_line.proofs.Tally.after.Goals as goal

pub with-requires-clause-bits_bound : goal.with-requires-clause-bits_bound
with-requires-clause-bits_bound g c =
    let (_, _, pairs, bits) = four_fit c.in-Ok.d (c.requires.answers_fit c.in-Ok.d c.in-Ok.is) in (bits, pairs)

pub returns-in-Ok-clause-counted : goal.returns-in-Ok-clause-counted
unfolding stage_outcome tally_after
returns-in-Ok-clause-counted g c = rw c.in-Ok.is c.with.ensures
