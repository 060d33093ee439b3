-- `quantizer::tables::dead_zone` meets its contract: each literal is the table's pattern. Assumes nothing.
use mathlib.Core.Path.{refl}
use Rattle.rules.specs.Tables.{dead_zone_table}
use Rattle.quantizer.proofs.tables.dead_zone.Goals as goal

pub returns : goal.returns
unfolding dead_zone_table
returns c = refl
