-- `refusals::list::RefusalFromListWriteRefusal::from` meets its contract. Assumes nothing.
use Rattle.rules_files.specs.List.{list_written_outcome}
use Rattle.refusals.specs.Refusals.{refusal_of}
use Rattle.refusals.proofs.list.RefusalFromListWriteRefusal.from.Goals as goal

pub returns-in-ShortBuffer : goal.returns-in-ShortBuffer
unfolding refusal_of list_written_outcome
returns-in-ShortBuffer c = rw c.in-ShortBuffer.is c.refused.ensures

pub returns-in-BadEntry : goal.returns-in-BadEntry
unfolding refusal_of list_written_outcome
returns-in-BadEntry c = rw c.in-BadEntry.is c.refused-in-BadEntry.ensures
