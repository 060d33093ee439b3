-- `read_all_codes` reads the eight subframes. Assumes nothing.
use mathlib.Core.Path.{refl}
use native.Mathlib.Omega.{arith}
use Rattle.std.proofs.lemmas.Result.{err_from_is_err_and}
use Rattle.reader_codes.proofs.Eight.{eight_none, eight_all, eight_stop, eight_more}
use Rattle.reader_codes.proofs.read_all_codes.Goals as goal

pub loop-subframe-init : goal.loop-subframe-init
loop-subframe-init c = eight_none _ _ _ _ _ (omega arith)

pub returns-in_err-at : goal.returns-in_err-at
returns-in_err-at c =
    let l = c.loop-subframe in
    let p = err_from_is_err_and c.from_residual.result c.from_residual.ensures.1 in
    rw (p.1, p.2) (eight_stop _ _ _ _ _ l.codes l.at.at l.subframe l.invariant (omega arith) _ _ c.in_err-at.ensures)

pub loop-subframe-preserved : goal.loop-subframe-preserved
loop-subframe-preserved c =
    let l = c.loop-subframe in
    eight_more _ _ _ _ _ l.codes l.at.at l.subframe l.invariant (omega arith) _ c.read_subframe.auto.codes c.in_ok-at.at c.in_ok-at.ensures

pub returns : goal.returns
returns c = eight_all _ _ _ _ _ _ _ _ c.loop-subframe.invariant c.loop-subframe.at refl c.requires.resolutions_len.1 (omega arith)
