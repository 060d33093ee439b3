-- `emission::Run::put_four` meets its contract. Assumes nothing.
use Prim.Native.Nat.{◌+◌, ◌≤◌}
use native.Mathlib.Omega.{arith}
use Rattle.emission.proofs.Joins.{or_join, join_lt, bits_join}
use borrow.Author.Rules.{rules}
use Rattle.emission.proofs.Run.put_four.Goals as goal

pub put_wide-requires : goal.put_wide-requires
put_wide-requires c =
    let p = c.then-p in
    let q = c.then-q in
    let h : p.result.length + q.result.length ≤ 48 = omega (arith, p.ensures.long, q.ensures.long) in
    let e = or_join 64 p.result.length q.result.length p.result.word q.result.word p.ensures.fits q.ensures.fits (omega arith) in
    (h, rw e (join_lt p.result.length q.result.length p.ensures.fits q.ensures.fits), search rules, search rules)

pub returns : goal.returns
returns c =
    let p = c.then-p in
    let q = c.then-q in
    let fit = c.requires.fits in
    let h : p.result.length + q.result.length ≤ 64 =
    omega (arith, p.ensures.long, q.ensures.long, fit.0.narrow, fit.1.narrow, fit.2.narrow, fit.3.narrow) in
    let e = or_join 64 p.result.length q.result.length p.result.word q.result.word p.ensures.fits q.ensures.fits h in
    let j = bits_join p.result.length q.result.length p.result.word q.result.word q.ensures.fits in
    rw (e, j, p.ensures.both, q.ensures.both) at c.put_wide.ensures
