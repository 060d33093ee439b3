use mathlib.Core.Path.{◌≡◌}
use Prim.Native.Nat.{◌+◌, ◌*◌}
use native.Mathlib.Omega.{arith}
use Rattle.emission.proofs.Runs.{closed}
use Rattle.emission.proofs.Run.close.Goals as goal

pub returns : goal.returns
returns c =
    let run = c.args.self in
    let l = c.loop-i in
    let d = l.invariant in
    let e : 8 * run.at + run.n ≡ run.at * 8 + run.n = omega arith in
    rw e at (closed {run = run} {s = c.args.payload.now} {s' = l.payload} d.same (λ k h. d.before k (omega arith))
    (λ k h g. d.clear k (omega arith) (omega arith)))
