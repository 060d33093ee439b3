-- `refusals::line::RefusalFromLineRefusal::from` meets its contract. Assumes nothing.
use Rattle.rules_line.specs.Line.{line_outcome_by}
use Rattle.refusals.specs.Refusals.{refusal_of}
use Rattle.refusals.proofs.line.RefusalFromLineRefusal.from.Goals as goal

pub returns-in-BadLayout : goal.returns-in-BadLayout
unfolding refusal_of line_outcome_by
returns-in-BadLayout g c of told = rw c.in-BadLayout.is c.refused.ensures

pub returns-in-BadBatch : goal.returns-in-BadBatch
unfolding refusal_of line_outcome_by
returns-in-BadBatch g c of told = rw c.in-BadBatch.is c.refused-in-BadBatch.ensures

pub returns-in-ShortBuffer : goal.returns-in-ShortBuffer
unfolding refusal_of line_outcome_by
returns-in-ShortBuffer g c of told = rw c.in-ShortBuffer.is c.refused-in-ShortBuffer.ensures

pub returns-in-Frame : goal.returns-in-Frame
unfolding refusal_of line_outcome_by
returns-in-Frame g c of told = rw c.in-Frame.is (told _ _ c.into.ensures)
