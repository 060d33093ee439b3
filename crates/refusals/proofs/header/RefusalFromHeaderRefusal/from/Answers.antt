-- `refusals::header::RefusalFromHeaderRefusal::from` meets its contract. Assumes nothing.
use Rattle.rules_files.specs.FileHeader.{header_outcome}
use Rattle.refusals.specs.Refusals.{refusal_of}
use Rattle.refusals.proofs.header.RefusalFromHeaderRefusal.from.Goals as goal

pub returns-in-BadLayout : goal.returns-in-BadLayout
unfolding refusal_of header_outcome
returns-in-BadLayout c = rw c.in-BadLayout.is c.refused.ensures

pub returns-in-ShortBuffer : goal.returns-in-ShortBuffer
unfolding refusal_of header_outcome
returns-in-ShortBuffer c = rw c.in-ShortBuffer.is c.refused-in-ShortBuffer.ensures

pub returns-in-BadHeader : goal.returns-in-BadHeader
unfolding refusal_of header_outcome
returns-in-BadHeader c = rw c.in-BadHeader.is c.refused-in-BadHeader.ensures
