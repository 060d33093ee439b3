-- Bits of numbers and of byte lists, high bit first. This is the one meaning of bits in the repository: a list of Bools, `true` for 1.
-- Definitions only.
use Rattle.std.specs.Prelude.{ℕ, zero, suc, ◌+◌, ◌*◌, ◌/◌, ◌%◌, ◌^◌, ◌<◌, Bool, true, false, List, [], ◌∷◌, ◌++◌, eqb, length, get_or, take, drop, replicate}

abbrev pub odd : (number : ℕ) → Bool
odd number = eqb (number % 2) 1

abbrev pub digit : (bit : Bool) → ℕ
digit false = 0
digit true = 1

-- the `count` low bits of a number, high bit first
unfoldable pub bits : (count number : ℕ) → List Bool
bits zero number = []
bits (suc k) number = odd (number / 2 ^ k) ∷ bits k number

-- the number whose bits these are, high bit first
unfoldable pub value : (bs : List Bool) → ℕ
value [] = 0
value (b ∷ bs) = digit b * 2 ^ length bs + value bs

-- the bits of a list of bytes, the first byte's high bit first
unfoldable pub bits_of : (s : List ℕ) → List Bool
bits_of [] = []
bits_of (b ∷ s) = bits 8 b ++ bits_of s

-- the `count` bytes that hold these bits
unfoldable pub pack : (count : ℕ) (bs : List Bool) → List ℕ
pack zero bs = []
pack (suc n) bs = value (take 8 bs) ∷ pack n (drop 8 bs)

-- each number is a byte
abbrev pub Bytes : (s : List ℕ) → Type 0
Bytes [] = Unit {0}
Bytes (b ∷ s) = (b < 256) × Bytes s

-- so many zero bits
abbrev pub zeros : (count : ℕ) → List Bool
zeros count = replicate count false

-- the three bytes of s from byte i on as one number, a byte past the end being 0
unfoldable pub word_at : (s : List ℕ) (i : ℕ) → ℕ
word_at s i = get_or s i 0 * 2 ^ 16 + (get_or s (i + 1) 0 * 2 ^ 8 + get_or s (i + 2) 0)
