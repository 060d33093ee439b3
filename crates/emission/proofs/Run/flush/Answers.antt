-- `emission::Run::flush` meets its contract. Assumes nothing.
use lib.Bits.{and_mask}
use native.Mathlib.Omega.{arith}
use Rattle.emission.proofs.Joins.{top-bits}
use Rattle.emission.proofs.Runs.{flushed}
use Rattle.emission.proofs.Run.flush.Goals as goal

pub returns : goal.returns
returns c =
    let run = c.args.self in
    rw (and_mask run.n 3) (flushed {run = run} {s = c.args.payload.now} c.requires.0 c.store.ensures
    (top-bits run.bits run.n (omega arith)))
