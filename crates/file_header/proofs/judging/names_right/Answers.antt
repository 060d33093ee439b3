use Rattle.std.proofs.Common.{rules}
use Rattle.rules_files.specs.HeaderReading.{all_stand, names_right}
use Rattle.file_header.proofs.judging.names_right.Goals as goal

pub returns-then-front_names : goal.returns-then-front_names
unfolding names_right all_stand
returns-then-front_names c = search rules

pub returns-else-front_names : goal.returns-else-front_names
unfolding names_right all_stand
returns-else-front_names c = search rules
