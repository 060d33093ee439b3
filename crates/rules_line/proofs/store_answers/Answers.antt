-- `rules_line::store_answers` meets its contract. Assumes nothing.
use Rattle.rules.specs.Refusals.{stage_outcome}
use Rattle.rules_line.specs.Line.{answers_of}
use Rattle.rules_line.proofs.Answers.{four_fit, four-stored}
use Rattle.rules_line.proofs.store_answers.Goals as goal

pub overflow_cast-answers : goal.overflow_cast-answers
overflow_cast-answers g c = record { fits = (four_fit c.in-Ok.d (c.requires.answers_fit c.in-Ok.d c.in-Ok.is)).0 }

pub overflow_cast-answers-2 : goal.overflow_cast-answers-2
overflow_cast-answers-2 g c = record { fits = (four_fit c.in-Ok.d (c.requires.answers_fit c.in-Ok.d c.in-Ok.is)).1 }

pub overflow_cast-answers-3 : goal.overflow_cast-answers-3
overflow_cast-answers-3 g c = record { fits = (four_fit c.in-Ok.d (c.requires.answers_fit c.in-Ok.d c.in-Ok.is)).2 }

pub overflow_cast-answers-4 : goal.overflow_cast-answers-4
overflow_cast-answers-4 g c = record { fits = (four_fit c.in-Ok.d (c.requires.answers_fit c.in-Ok.d c.in-Ok.is)).3 }

pub returns-clause-stored : goal.returns-clause-stored
unfolding stage_outcome answers_of
returns-clause-stored g c = rw c.in-Ok.is (four-stored c.args.answers.now _ _ _ _ c.requires.in_bounds)
