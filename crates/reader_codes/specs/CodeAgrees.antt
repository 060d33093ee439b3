-- How the answer of a code says what a reader gives: a value and the bits left after it, or refusal 13 of **Refusal numbers** and the bits left at
-- the code that passes the end. A place is counted from the first bit of the part.
use Rattle.std.specs.Prelude.{◌≡◌, List, Result, Ok, Err, ℕ, ◌*◌, ◌≤◌, ℤ, length}
use Rattle.bits.specs.Place.{left_at}
use Rattle.rules.specs.Format.{Read, ok, bad, Reader, ◌>>=◌, as_one, number}
use Rattle.rules.specs.Code.{magnitude_bits}
use Rattle.rules.specs.Reading.{signed}
use Rattle.bits.specs.declared.PastEnd.{PastEnd}
use Rattle.bits.specs.declared.Place.{Place}

-- **Frame**: a code from resolution 8 up, its magnitude and its sign as one field
abbrev pub signed_code : (r : ℕ) → Reader ℤ
signed_code r = as_one (number (magnitude_bits r) >>= signed)

-- a code and the place after it, or that it passes the part's end
abbrev pub Code : Type 0
Code = Result (ℤ × Place) PastEnd

-- a code that was read, or the refusal of one that the part's end cuts
abbrev pub code_read : (part : List ℕ) (r : Code) → Read ℤ
code_read part (Ok (z, q)) = ok z (left_at part q.at)
code_read part (Err cut) = bad 13 (length (left_at part cut.at))

abbrev pub CodeEnds : (part : List ℕ) (p : ℕ) (r : Code) → Type 0
CodeEnds part p (Ok (z, q)) = q.at ≤ 8 * length part
CodeEnds part p (Err cut) = cut.at ≡ p

-- what reading a code at bit p tells of a reader's result x
pub record CodeAgrees (part : List ℕ) (p : ℕ) (x : Read ℤ) (r : Code) : Type 0 where
  pub is : x ≡ code_read part r
  pub ends : CodeEnds part p r
