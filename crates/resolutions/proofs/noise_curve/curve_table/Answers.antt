-- `resolutions::noise_curve::curve_table` meets its contract. Assumes nothing.
use Rattle.resolutions.proofs.Stretches.{plain-is}
use Rattle.resolutions.proofs.noise_curve.curve_table.Goals as goal

pub returns-then-layout-eq15 : goal.returns-then-layout-eq15
returns-then-layout-eq15 c = plain-is _ _ c.plain_curve.ensures c.if-layout-eq1.true c.if-layout-eq15.true
