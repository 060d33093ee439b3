-- `crc_sliced::crc16_eights` meets its contract: the invariant says what the bytes that are passed make of the sum, eight more each time.
-- Assumes nothing.
use mathlib.Core.Path.{◌≡◌}
use Prim.Native.Nat.{◌*◌}
use lib.ListN.{take}
use Rattle.crc.specs.Table.{feed}
use Rattle.crc_sliced.proofs.crc16_eights.Given as goal

abbrev pub invariant-loop-b : goal.invariant-loop-b
invariant-loop-b l = l.sum ≡ feed l.start (take (l.b-index * 8) l.fn.bytes)
