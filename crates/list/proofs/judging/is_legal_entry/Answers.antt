-- `list::judging::is_legal_entry` meets its contract. Assumes nothing.
use borrow.Author.Rules.{rules}
use Rattle.rules_files.specs.List.{legal_entry}
use Rattle.list.proofs.judging.is_legal_entry.Goals as goal

pub returns-then-entry-le127 : goal.returns-then-entry-le127
unfolding legal_entry
returns-then-entry-le127 c = search rules

pub returns-else-entry-le127 : goal.returns-else-entry-le127
unfolding legal_entry
returns-else-entry-le127 c = search rules
