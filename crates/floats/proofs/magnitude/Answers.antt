-- `floats::magnitude` meets its contract. Assumes nothing.
use mathlib.Core.Path.{sym, ◌∙◌}
use Rattle.floats.proofs.AbsLaws.{nan_left, no_nan}
use Rattle.floats.proofs.magnitude.Goals as goal

pub returns-then-is_nan : goal.returns-then-is_nan
returns-then-is_nan c = nan_left c.args.x (sym c.is_nan.ensures.value ∙ c.if-is_nan.true)

pub size-requires : goal.size-requires
size-requires c = no_nan c.args.x (sym c.is_nan.ensures.value ∙ c.if-is_nan.false)
