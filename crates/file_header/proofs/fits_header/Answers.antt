use Rattle.std.proofs.Common.{rules}
use Rattle.rules_files.specs.FileHeader.{fits_header}
use Rattle.file_header.proofs.fits_header.Goals as goal

pub returns-then-stream-le65535 : goal.returns-then-stream-le65535
unfolding fits_header
returns-then-stream-le65535 c = search rules

pub returns-else-stream-le65535 : goal.returns-else-stream-le65535
unfolding fits_header
returns-else-stream-le65535 c = search rules
