-- `crc::crc16_feed` meets its contract: the invariant says what the bytes that are passed make of the sum.
-- Assumes nothing.
use mathlib.Core.Path.{◌≡◌}
use lib.ListN.{take}
use Rattle.crc.specs.Table.{feed}
use Rattle.crc.proofs.crc16_feed.Given as goal

abbrev pub invariant-loop-byte : goal.invariant-loop-byte
invariant-loop-byte l = l.sum ≡ feed l.start (take l.byte-index l.bytes)
