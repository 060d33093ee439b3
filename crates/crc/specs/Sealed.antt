-- **Check**: a frame ends in the checksum of all that stands before its last two bytes, the high byte first.
-- Definitions only.
use Rattle.std.specs.Prelude.{Bool, List, [], ◌∷◌, ◌++◌, ℕ, ◌+◌, ◌-◌, ◌*◌, ◌/◌, ◌%◌, eqb, length, get_or, take}
use Rattle.crc.specs.Check.{checksum}

-- what stands before the last two bytes
abbrev pub body : (frame : List ℕ) → List ℕ
body frame = take (length frame - 2) frame

-- the check of a body in two bytes, the high byte first
abbrev pub check : (message : List ℕ) → List ℕ
check message = checksum message / 256 ∷ checksum message % 256 ∷ []

-- a body with its check behind it
abbrev pub sealed : (message : List ℕ) → List ℕ
sealed message = message ++ check message

-- are the last two bytes the check of the body?
unfoldable pub is_sealed : (frame : List ℕ) → Bool
is_sealed frame = eqb (get_or frame (length frame - 2) 0 * 256 + get_or frame (length frame - 1) 0) (checksum (body frame))
