-- `window` meets its contract.
use native.Mathlib.Omega.{arith}
use Rattle.bits.specs.Bits.{word_at}
use Rattle.bits.proofs.Shifts.{bytes-or}
use Rattle.bits.proofs.window.Goals as goal

pub returns : goal.returns
unfolding word_at
returns c =
    let x = c.byte_or_zero in
    let y = c.byte_or_zero-2 in
    let z = c.byte_or_zero-3 in
    rw (bytes-or x.result y.result z.result x.ensures.1 y.ensures.1 z.ensures.1)
    (rw (x.ensures.0, y.ensures.0, z.ensures.0), omega arith)
