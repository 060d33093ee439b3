-- `read_channels` reads each channel into its part. Assumes nothing.
use mathlib.Core.Path.{◌≡◌, refl}
use native.Mathlib.Omega.{arith}
use borrow.Author.Rules.{rules}
use lib.ListN.{length}
use Rattle.std.proofs.lemmas.Result.{err_from_is_err_and}
use Rattle.reader_channels.proofs.HeaderChannels.{reading_none, reading_all, reading_stop, reading_more}
use Rattle.reader_channels.proofs.read_channels.Goals as goal

pub loop-c-init : goal.loop-c-init
loop-c-init c =
    let a = c.args in
    reading_none a.layout a.part.now a.place.at a.factors.now a.side.now (omega arith) (omega arith) (omega arith)

pub returns-in_err-at : goal.returns-in_err-at
returns-in_err-at c =
    let a = c.args in
    let p = err_from_is_err_and c.from_residual.result c.from_residual.ensures.1 in
    rw (p.1, p.2) (reading_stop a.layout a.part.now c.loop-c.invariant c.loop-c-test.true c.in_err-at.was c.read_channel.ensures)

pub loop-c-preserved : goal.loop-c-preserved
loop-c-preserved c =
    let r = c.read_channel in
    let ys = r.new.factors in
    let zs = r.new.side in
    let fl : length ys ≡ 128 = search rules in
    let sl : length zs ≡ 8 = search rules in
    reading_more c.args.layout c.args.part.now c.loop-c.invariant c.loop-c-test.true ys zs fl sl c.in_ok-at.was r.ensures

pub returns : goal.returns
returns c = reading_all c.args.layout c.args.part.now c.loop-c.invariant c.loop-c.at refl (omega arith)
