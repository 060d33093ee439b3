-- Whole numbers with a sign: held to a range, with its exact meaning below zero, and from a float.
use Rattle.std.specs.Prelude.{cond, ℤ, Float}
use Rattle.std.specs.Int.Signed.{lt_z}
use Rattle.std.specs.Float.Ieee.{to_signed}

-- z held within lo and hi
unfoldable pub held_z : (low high z : ℤ) → ℤ
held_z low high z = cond (lt_z z low) low (cond (lt_z high z) high z)

-- Rust's `as i32`: toward zero, held to 32 bits
abbrev pub as_i32 : (x : Float) → ℤ
as_i32 x = to_signed 31 x
