-- `refusals::RefusalFromWriteRefusal::from` meets its contract. Assumes nothing.
use Rattle.rules.specs.Refusals.{writer_outcome}
use Rattle.refusals.specs.Refusals.{refusal_of}
use Rattle.refusals.proofs.RefusalFromWriteRefusal.from.Goals as goal

pub returns-in-BadLayout : goal.returns-in-BadLayout
unfolding refusal_of writer_outcome
returns-in-BadLayout c = rw c.in-BadLayout.is c.refused.ensures

pub returns-in-ShortBuffer : goal.returns-in-ShortBuffer
unfolding refusal_of writer_outcome
returns-in-ShortBuffer c = rw c.in-ShortBuffer.is c.refused-in-ShortBuffer.ensures

pub returns-in-NotLegal : goal.returns-in-NotLegal
unfolding refusal_of writer_outcome
returns-in-NotLegal c = rw c.in-NotLegal.is c.refused-in-NotLegal.ensures

pub returns-in-TooLong : goal.returns-in-TooLong
unfolding refusal_of writer_outcome
returns-in-TooLong c = rw c.in-TooLong.is c.refused-in-TooLong.ensures
