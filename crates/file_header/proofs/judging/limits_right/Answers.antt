use Rattle.std.proofs.Common.{rules}
use Rattle.file_header.proofs.Readings.{limits_split}
use Rattle.file_header.proofs.judging.limits_right.Goals as goal

pub returns-then-fields-ge1 : goal.returns-then-fields-ge1
returns-then-fields-ge1 c = rw (limits_split c.args.fields c.args.layout c.requires) (search rules)

pub returns-else-fields-ge1 : goal.returns-else-fields-ge1
returns-else-fields-ge1 c = rw (limits_split c.args.fields c.args.layout c.requires) (search rules)
