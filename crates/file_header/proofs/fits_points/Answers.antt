use Rattle.std.proofs.Common.{rules}
use Rattle.rules_files.specs.FileHeader.{fits_points}
use Rattle.file_header.proofs.fits_points.Goals as goal

pub returns-in_default : goal.returns-in_default
unfolding fits_points
returns-in_default c = search rules

pub returns-then-points-le4294967167 : goal.returns-then-points-le4294967167
unfolding fits_points
returns-then-points-le4294967167 c = search rules

pub returns-else-points-le4294967167 : goal.returns-else-points-le4294967167
unfolding fits_points
returns-else-points-le4294967167 c = search rules
