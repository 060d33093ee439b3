-- `hca_encode::line::name_frame` meets its contract. Assumes nothing.
use mathlib.Core.Path.{refl}
use borrow.Author.Tests.{lt-ltb, le-ltb}
use Rattle.rules_line.specs.Line.{line_index}
use Rattle.hca_encode.specs.EncodeLine.{index_in, IndexFits}
use Rattle.hca_encode.proofs.LinePlaces.{unnamed_in}
use Rattle.hca_encode.proofs.line.name_frame.Goals as goal

pub returns-in_default : goal.returns-in_default
returns-in_default g c = unnamed_in _ _ c.in_default.not-Frame

pub returns-then-answer-lt4 : goal.returns-then-answer-lt4
unfolding index_in line_index
returns-then-answer-lt4 g c = rw (c.in-Frame.is, lt-ltb _ _ c.if-answer-lt4.true)

pub overflow_cast-answer : goal.overflow_cast-answer
unfolding IndexFits line_index
overflow_cast-answer g c = let h = rw c.in-Frame.is at c.requires in record { fits = h _ refl }

pub returns : goal.returns
unfolding index_in line_index
returns g c = rw (c.in-Frame.is, le-ltb _ _ c.if-answer-lt4.false)
