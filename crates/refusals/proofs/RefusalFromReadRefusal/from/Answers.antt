-- `refusals::RefusalFromReadRefusal::from` meets its contract. Assumes nothing.
use Rattle.rules.specs.Refusals.{reader_outcome}
use Rattle.refusals.specs.Refusals.{refusal_of}
use Rattle.refusals.proofs.RefusalFromReadRefusal.from.Goals as goal

pub returns-in-BadLayout : goal.returns-in-BadLayout
unfolding refusal_of reader_outcome
returns-in-BadLayout c = rw c.in-BadLayout.is c.refused.ensures

pub returns-in-ShortBuffer : goal.returns-in-ShortBuffer
unfolding refusal_of reader_outcome
returns-in-ShortBuffer c = rw c.in-ShortBuffer.is c.refused-in-ShortBuffer.ensures

pub returns-in-WrongCheck : goal.returns-in-WrongCheck
unfolding refusal_of reader_outcome
returns-in-WrongCheck c = rw c.in-WrongCheck.is c.refused-in-WrongCheck.ensures

pub returns-in-WrongSync : goal.returns-in-WrongSync
unfolding refusal_of reader_outcome
returns-in-WrongSync c = rw c.in-WrongSync.is c.refused-in-WrongSync.ensures

pub returns-in-BadWidth : goal.returns-in-BadWidth
unfolding refusal_of reader_outcome
returns-in-BadWidth c = rw c.in-BadWidth.is c.refused-in-BadWidth.ensures

pub returns-in-BadFactor : goal.returns-in-BadFactor
unfolding refusal_of reader_outcome
returns-in-BadFactor c = rw c.in-BadFactor.is c.refused-in-BadFactor.ensures

pub returns-in-PastEnd : goal.returns-in-PastEnd
unfolding refusal_of reader_outcome
returns-in-PastEnd c = rw c.in-PastEnd.is c.refused-in-PastEnd.ensures

pub returns-in-FillNotZero : goal.returns-in-FillNotZero
unfolding refusal_of reader_outcome
returns-in-FillNotZero c = rw c.in-FillNotZero.is c.refused-in-FillNotZero.ensures
