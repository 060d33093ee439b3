use Rattle.std.proofs.Common.{rules}
use Rattle.rules_files.specs.HeaderReading.{loop_right}
use Rattle.file_header.proofs.judging.loop_right.Goals as goal

pub returns-in_default : goal.returns-in_default
unfolding loop_right
returns-in_default c = search rules

pub returns-then-fields-ge128-2 : goal.returns-then-fields-ge128-2
unfolding loop_right
returns-then-fields-ge128-2 c = search rules

pub returns-else-fields-ge128-2 : goal.returns-else-fields-ge128-2
unfolding loop_right
returns-else-fields-ge128-2 c = search rules
