use mathlib.Core.Path.{◌≡◌}
use Prim.Native.Nat.{ℕ, ◌+◌, ◌*◌, ◌≤◌, ◌<◌}
use native.Mathlib.Omega.{arith}
use lib.ListN.{length}
use lib.Seq.{take_all}
use Rattle.emission.proofs.Runs.{emits_then}
use Rattle.emission.proofs.Rows.{four_more, four-length}
use Rattle.emission.proofs.Run.put_all.Goals as goal

pub loop-four-preserved : goal.loop-four-preserved
loop-four-preserved c =
    let l = c.loop-four in
    let w = c.put_four-run in
    let words = c.args.words.now in
    let lengths = c.args.lengths.now in
    let i : ℕ = l.four * 4 in
    let below : l.four * 4 + 3 < length words = omega (arith, c.loop-four-test.true) in
    let next : l.four * 4 + 4 ≡ (l.four + 1) * 4 = omega arith in
    let four = four_more lengths words i (omega (arith, below, c.requires.words_len.1)) below in
    let long = four-length lengths words i in
    let f0 = (c.requires.all_fit i (omega (arith, below))).0 in
    let f1 = (c.requires.all_fit (i + 1) (omega (arith, below))).0 in
    let f2 = (c.requires.all_fit (i + 2) (omega (arith, below))).0 in
    let f3 = (c.requires.all_fit (i + 3) below).0 in
    let most : 8 * w.result.at + w.result.n ≤ 8 * l.run.at + l.run.n + 48 = omega (arith, w.ensures.next) in
    (rw (← next, four) (emits_then l.invariant.0 w.ensures), omega (arith, l.invariant.1, most))

pub returns : goal.returns
returns c =
    let l = c.loop-four in
    let words = c.args.words.now in
    let lengths = c.args.lengths.now in
    let all : length words ≤ l.four * 4 = omega (arith, c.loop-four-test.false, c.requires.words_len.0) in (
      rw (take_all (l.four * 4) lengths (omega (arith, all, c.requires.words_len.1)), take_all (l.four * 4) words all) at l.invariant.0,
      omega (arith, l.invariant.1, c.requires.words_len.0),
    )
