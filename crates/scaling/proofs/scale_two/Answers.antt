-- `scaling::scale_two` meets its contract. Assumes nothing.
use mathlib.Core.Path.{ap₂}
use Prim.Native.Nat.{◌+◌}
use lib.Ieee.{Float}
use lib.ListN.{set}
use Rattle.scaling.specs.Bands.{stored_band}
use Rattle.scaling.proofs.scale_two.Goals as goal

pub returns : goal.returns
unfolding stored_band
returns c =
    let a = c.args in
    ap₂ (λ (u v : Float). set (set a.scaled.now a.at u) (a.at + 1) v) c.value_of.ensures c.value_of-2.ensures
