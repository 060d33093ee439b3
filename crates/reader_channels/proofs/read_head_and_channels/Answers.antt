-- `read_head_and_channels` reads level, boundary and channels, or hands on the first refusal. Assumes nothing.
use native.Mathlib.Omega.{arith}
use Rattle.std.proofs.lemmas.Result.{err_from_is_err_and}
use Rattle.reader_channels.proofs.Heads.{head-refused}
use Rattle.reader_channels.proofs.Headed.{headed_after, headed_cut}
use Rattle.reader_channels.proofs.read_head_and_channels.Goals as goal

pub returns-in_err-head : goal.returns-in_err-head
returns-in_err-head c =
    let p = err_from_is_err_and c.from_residual.result c.from_residual.ensures.1 in
    rw (p.1, p.2) (head-refused (c.read_head.ensures c.args.layout) c.in_err-head.was)

pub read_channels-requires-clause-inside : goal.read_channels-requires-clause-inside
read_channels-requires-clause-inside c = record { within = (c.in_ok-head.ensures c.args.layout).within; short = omega arith }

pub returns-in_err-next : goal.returns-in_err-next
returns-in_err-next c =
    let a = c.args in
    let p = err_from_is_err_and c.from_residual-in_err-next.result c.from_residual-in_err-next.ensures.1 in
    rw (p.1, p.2) (headed_cut a.layout a.part.now _ _ (c.in_ok-head.ensures a.layout) c.in_err-next.ensures)

pub returns : goal.returns
returns c =
    let a = c.args in
    headed_after a.layout a.part.now _ _ (c.in_ok-head.ensures a.layout) c.in_ok-next.ensures
