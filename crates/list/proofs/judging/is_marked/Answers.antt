-- `list::judging::is_marked` meets its contract. Assumes nothing.
use borrow.Author.Rules.{rules}
use Rattle.rules_files.specs.List.{is_marked}
use Rattle.list.proofs.judging.is_marked.Goals as goal

pub returns-then-get_high-eq5654089 : goal.returns-then-get_high-eq5654089
unfolding is_marked
returns-then-get_high-eq5654089 c = search rules

pub returns-else-get_high-eq5654089 : goal.returns-else-get_high-eq5654089
unfolding is_marked
returns-else-get_high-eq5654089 c = search rules
