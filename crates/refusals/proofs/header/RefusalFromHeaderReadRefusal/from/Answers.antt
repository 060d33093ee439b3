-- `refusals::header::RefusalFromHeaderReadRefusal::from` meets its contract. Assumes nothing.
use Rattle.rules_files.specs.HeaderReading.{header_read_outcome}
use Rattle.refusals.specs.Refusals.{refusal_of}
use Rattle.refusals.proofs.header.RefusalFromHeaderReadRefusal.from.Goals as goal

pub returns-in-ShortBuffer : goal.returns-in-ShortBuffer
unfolding refusal_of header_read_outcome
returns-in-ShortBuffer c = rw c.in-ShortBuffer.is c.refused.ensures

pub returns-in-WrongCheck : goal.returns-in-WrongCheck
unfolding refusal_of header_read_outcome
returns-in-WrongCheck c = rw c.in-WrongCheck.is c.refused-in-WrongCheck.ensures

pub returns-in-WrongName : goal.returns-in-WrongName
unfolding refusal_of header_read_outcome
returns-in-WrongName c = rw c.in-WrongName.is c.refused-in-WrongName.ensures

pub returns-in-BadField : goal.returns-in-BadField
unfolding refusal_of header_read_outcome
returns-in-BadField c = rw c.in-BadField.is c.refused-in-BadField.ensures

pub returns-in-NotZero : goal.returns-in-NotZero
unfolding refusal_of header_read_outcome
returns-in-NotZero c = rw c.in-NotZero.is c.refused-in-NotZero.ensures
