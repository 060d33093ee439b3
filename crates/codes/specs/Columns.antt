-- Document 01, **Code**, for a value within the clip: what a band's codes are made with, and a code without a clamp. Definitions only.
use Rattle.std.specs.Prelude.{false, cond, ℕ, ◌+◌, ◌-◌, ◌≤◌, eqb, ℤ, pos, ◌-ℤ◌, nat_abs, Float}
use Rattle.std.specs.Float.{fin, binary32}
use Rattle.std.specs.Float.Ieee.{add, mul, to_signed}
use Rattle.floats.specs.Single.{one_f, min_f}
use Rattle.rules.specs.Code.{step_of, step_shift}
use Rattle.rules.specs.declared.Mode.{Mode}
use Rattle.rules.specs.declared.Mode.TheVariants.{Rust, Held}
use Rattle.codes.specs.declared.band.Column.{Column}

-- the most that is truncated. Rust: 1 at resolution 0, whose codes are 0, else nothing is above it; Held: what gives the code at the upper end of its range
abbrev pub top_of : (mode : Mode) (resolution : ℕ) (step : Float) → Float
top_of Rust resolution step = cond (eqb resolution 0) one_f (fin false 1 (pos 12))
top_of Held resolution step = add binary32 step step

abbrev pub column_of : (step top : Float) (bits : ℕ) → Column
column_of step top bits = record { step = step; top = top; zero = bits }

-- with the bits of 2 ^ 23 and step + 0.5, which stand for code 0
unfoldable pub column_at : (mode : Mode) (resolution : ℕ) → Column
column_at mode resolution = column_of (step_of resolution) (top_of mode resolution (step_of resolution)) (0x4B000000 + nat_abs (step_shift resolution))

-- what is truncated, and the code
unfoldable pub cut_by : (column : Column) (x : Float) → Float
cut_by column x = min_f column.top (add binary32 (mul binary32 x column.step) (add binary32 column.step one_f))

unfoldable pub code_by : (column : Column) (x : Float) → ℤ
code_by column x = to_signed 31 (cut_by column x) -ℤ pos (column.zero - 0x4B000000)

-- code 0 stands at 2 ^ 23 and at most 2,048 more
pub record Based (column : Column) : Type 0 where
  pub least : 0x4B000000 ≤ column.zero
  pub most : column.zero ≤ 0x4B000000 + 2048
