-- A number and its bytes, the high byte first or the low byte first; a part of a list replaced.
-- Definitions only.
use Rattle.std.specs.Prelude.{List, [], ◌∷◌, ◌++◌, ℕ, zero, suc, ◌+◌, ◌*◌, ◌/◌, ◌%◌, ◌^◌, length, take, drop}

-- the `width` low bytes of a number, the high byte first
unfoldable pub high_first : (width number : ℕ) → List ℕ
high_first zero number = []
high_first (suc k) number = number / 256 ^ k % 256 ∷ high_first k number

-- the number whose bytes these are, the high byte first
unfoldable pub of_high : (bytes : List ℕ) → ℕ
of_high [] = 0
of_high (b ∷ bs) = b * 256 ^ length bs + of_high bs

-- the number whose bytes these are, the low byte first
unfoldable pub of_low : (bytes : List ℕ) → ℕ
of_low [] = 0
of_low (b ∷ bs) = b + 256 * of_low bs

-- a list with `new` in place of as many bytes from byte `at` on
unfoldable pub replaced : (old : List ℕ) (at : ℕ) (new : List ℕ) → List ℕ
replaced old at new = take at old ++ (new ++ drop (at + length new) old)
