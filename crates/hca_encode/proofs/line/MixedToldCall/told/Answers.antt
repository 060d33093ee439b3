-- Its refusals' numbers. Assumes nothing.
use Rattle.hca_encode.proofs.LinePlaces.{line_refusing, low_number}
use Rattle.hca_encode.proofs.line.MixedToldCall.told.Goals as goal

pub returns-clause-said : goal.returns-clause-said
returns-clause-said c = c.into.ensures _ (λ e x told. told)

pub returns-clause-low : goal.returns-clause-low
returns-clause-low c = low_number _ _ (line_refusing _) (c.into.ensures _ (λ e x told. told))
