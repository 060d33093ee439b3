-- **Frame**: below resolution 8 a code is one of a prefix code's words, and one look ahead finds it: which code a looked-at number begins with,
-- and how many bits it has.
use Rattle.std.specs.Prelude.{List, [], Bool, ℕ, ◌-◌, ℤ, pos, length, get_or}
use Rattle.bits.specs.Bits.{bits}
use Rattle.rules.specs.Format.{Read, ok, bad, one_of}
use Rattle.rules.specs.Tables.{max_bit_table}
use Rattle.rules.specs.Fields.{small_bits}
use Rattle.rules.specs.Reading.{codes_to}

-- how many bits are looked at: MAX_BIT_TABLE
abbrev pub word_bits : (r : ℕ) → ℕ
word_bits r = get_or max_bit_table r 0

-- the code that was read, and the bits left after it
abbrev pub code_of_read : (x : Read ℤ) → ℤ
code_of_read (ok c t) = c
code_of_read (bad n l) = pos 0

abbrev pub left_of_read : (x : Read ℤ) → List Bool
left_of_read (ok c t) = t
left_of_read (bad n l) = []

-- the code that a looked-at number begins with, and how many bits that code has
unfoldable pub code_seen : (r seen : ℕ) → ℤ
code_seen r seen = code_of_read (one_of (small_bits r) (codes_to r) (bits (word_bits r) seen))

unfoldable pub length_seen : (r seen : ℕ) → ℕ
length_seen r seen = word_bits r - length (left_of_read (one_of (small_bits r) (codes_to r) (bits (word_bits r) seen)))
