use Rattle.std.proofs.Common.{rules}
use Rattle.rules_files.specs.HeaderReading.{fields_of}
use Rattle.rules_files.specs.HeaderReadFits.{LoopFits}
use Rattle.file_header.proofs.numbers_at.points_of.Goals as goal

pub returns-then-is_looped : goal.returns-then-is_looped
unfolding fields_of LoopFits
returns-then-is_looped c = search rules

pub returns-else-is_looped : goal.returns-else-is_looped
unfolding fields_of LoopFits
returns-else-is_looped c = search rules
