-- `packing_channels::values::write_escape` meets its contract: two fields, one after the other. Assumes nothing.
use native.Mathlib.Omega.{arith}
use Rattle.emission.proofs.Runs.{emits_then}
use Rattle.packing_channels.proofs.values.write_escape.Goals as goal

pub returns : goal.returns
returns c =
    let first = c.write-next.ensures in
    let second = c.write.ensures in
    (emits_then (rw c.ones.ensures at first.0) second.0, omega arith)
