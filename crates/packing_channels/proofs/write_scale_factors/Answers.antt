-- `packing_channels::write_scale_factors` meets its contract, with width 0 and with another. Assumes nothing.
use mathlib.Core.List.{append-nil}
use native.Mathlib.Omega.{arith}
use Rattle.emission.proofs.Runs.{emits_then}
use Rattle.packing_channels.proofs.Walks.{no_factors_lem}
use Rattle.packing_channels.proofs.write_scale_factors.Goals as goal

pub returns-then-width-eq0 : goal.returns-then-width-eq0
returns-then-width-eq0 c =
    let w = c.write-next.ensures in (
      rw (← c.calculate_optimal_delta_length-best.ensures.0, no_factors_lem _ _ _ c.if-width-eq0.true, append-nil) w.0,
      omega arith,
    )

pub returns : goal.returns
returns c =
    let w = c.write-next.ensures in
    let v = c.write_factors.ensures in (
      rw (← c.calculate_optimal_delta_length-best.ensures.0) (emits_then w.0 v.0),
      omega arith,
    )
