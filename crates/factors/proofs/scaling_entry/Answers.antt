-- `factors::scaling_entry` meets its contract: the decimals are document 01's patterns. Assumes nothing.
use mathlib.Core.Path.{refl}
use Rattle.rules.specs.Tables.{scaling_table}
use Rattle.factors.proofs.scaling_entry.Goals as goal

pub returns : goal.returns
unfolding scaling_table
returns c = refl
