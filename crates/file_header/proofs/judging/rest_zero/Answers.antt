use Rattle.std.proofs.Common.{rules}
use Rattle.rules_files.specs.HeaderReading.{rest_zero}
use Rattle.file_header.proofs.judging.rest_zero.Goals as goal

pub returns-then-zero_bytes : goal.returns-then-zero_bytes
unfolding rest_zero
returns-then-zero_bytes c = search rules

pub returns-else-zero_bytes : goal.returns-else-zero_bytes
unfolding rest_zero
returns-else-zero_bytes c = search rules
