-- `first_one` meets its contract. Assumes nothing.
use mathlib.Core.Path.{sym, ◌∙◌}
use Prim.Native.Nat.{◌+◌, ◌*◌, ◌/◌}
use Rattle.reader.proofs.Zeros.{none_found, found_late}
use Rattle.reader.proofs.fill.first_one.Goals as goal

pub returns : goal.returns
returns c =
    let a = c.args in
    let early = none_found a.part.now a.place.at (8 * ((a.place.at + 7) / 8)) c.first_bit-early.result (sym c.if-is_some.ensures) c.first_bit-early.ensures in
    found_late a.part.now a.place.at (8 * c.zero_bytes-byte.result) c.first_bit.result (early ∙ c.zero_bytes-byte.ensures.1) c.first_bit.ensures
