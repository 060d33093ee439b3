-- A factor by the exponent. Definitions only.
use Rattle.std.specs.Prelude.{ℕ, ◌-◌, ◌*◌, ◌/◌, min}

-- A factor, or one less, from a float's bits: the table's entries grow by one and the same ratio, so their bits lie near a straight line.
unfoldable pub guess_of : ℕ → ℕ
guess_of b = min ((b - 0x34153066) * 1237 / 0x100000000) 62
