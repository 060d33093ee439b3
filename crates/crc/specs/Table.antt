-- What one byte more makes of a checksum.
-- Definitions only.
use Rattle.std.specs.Prelude.{List, [], ◌∷◌, ℕ, ◌*◌, ◌/◌, ◌%◌, ◌^◌}
use Rattle.std.specs.Int.Bits.{bit_xor}
use Rattle.crc.specs.Check.{checksum}

-- a message has the checksum `sum`: with `byte` behind it, this one
abbrev pub fed : (sum byte : ℕ) → ℕ
fed sum byte = bit_xor (sum * 2 ^ 8 % 2 ^ 16) (checksum (bit_xor (sum / 2 ^ 8) byte ∷ []))

-- and with these bytes behind it
abbrev pub feed : (sum : ℕ) (bytes : List ℕ) → ℕ
feed sum [] = sum
feed sum (b ∷ bs) = feed (fed sum b) bs
