-- `refusals::list::RefusalFromEntryRefusal::from` meets its contract. Assumes nothing.
use Rattle.rules_files.specs.List.{entry_outcome}
use Rattle.refusals.specs.Refusals.{refusal_of}
use Rattle.refusals.proofs.list.RefusalFromEntryRefusal.from.Goals as goal

pub returns-in-BadMark : goal.returns-in-BadMark
unfolding refusal_of entry_outcome
returns-in-BadMark c = rw c.in-BadMark.is c.refused.ensures

pub returns-in-BadLength : goal.returns-in-BadLength
unfolding refusal_of entry_outcome
returns-in-BadLength c = rw c.in-BadLength.is c.refused-in-BadLength.ensures

pub returns-in-BadEntry : goal.returns-in-BadEntry
unfolding refusal_of entry_outcome
returns-in-BadEntry c = rw c.in-BadEntry.is c.refused-in-BadEntry.ensures

pub returns-in-NoFrame : goal.returns-in-NoFrame
unfolding refusal_of entry_outcome
returns-in-NoFrame c = rw c.in-NoFrame.is c.refused-in-NoFrame.ensures
