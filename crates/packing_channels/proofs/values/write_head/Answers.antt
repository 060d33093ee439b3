-- `packing_channels::values::write_head` meets its contract: three fields. Assumes nothing.
use native.Mathlib.Omega.{arith}
use Rattle.emission.proofs.Runs.{emits_then}
use Rattle.packing_channels.proofs.values.write_head.Goals as goal

pub returns : goal.returns
returns c =
    let sync = c.write-a.ensures in
    let level = c.write-b.ensures in
    let boundary = c.write.ensures in
    (emits_then sync.0 (emits_then level.0 boundary.0), omega arith)
