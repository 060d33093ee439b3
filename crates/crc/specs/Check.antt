-- **Check**: the checksum of a message is the remainder of the message times x^16, divided by x^16 + x^15 + x^2 + 1.
-- Definitions only.
use Rattle.std.specs.Prelude.{true, false, List, [], ◌∷◌, ◌++◌, ℕ}
use Rattle.bits.specs.Bits.{value, bits_of, zeros}
use Rattle.crc.specs.Poly.{Poly, remainder}

-- x^16 + x^15 + x^2 + 1: after the leading coefficient the sixteen bits of 0x8005
abbrev pub divisor : Poly
divisor =
    true
    ∷ true ∷ false ∷ false ∷ false ∷ false ∷ false ∷ false ∷ false
    ∷ false ∷ false ∷ false ∷ false ∷ false ∷ true ∷ false ∷ true ∷ []

-- the checksum of a list of bytes. Their bits are taken high bit first, and nothing stands before them: the start is 0
unfoldable pub checksum : (message : List ℕ) → ℕ
checksum message = value (remainder divisor (bits_of message ++ zeros 16))
