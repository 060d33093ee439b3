-- How a value's answer says what a reader of the rules gives. `s` are the bytes after the sync.
use Rattle.std.specs.Prelude.{◌≡◌, List, Option, Some, None, Result, Ok, Err, cond, ◌&&◌, ℕ, ◌*◌, ◌≤◌, ◌<◌, ℤ, pos, nat_abs, length}
use Rattle.std.specs.Int.Signed.{le_z}
use Rattle.std.proofs.Math.Option as option
use Rattle.bits.specs.Place.{left_at}
use Rattle.bits.specs.declared.Place.{Place}
use Rattle.rules.specs.Format.{Read, ok}
use Rattle.reader_channels.specs.Steps.{fault_bit, refusal}
use Rattle.reader_channels.specs.declared.values.faults.Fault.{Fault}
use Rattle.reader_channels.specs.declared.values.faults.Fault.TheVariants as fault

-- a value and the place after it, or a refusal
abbrev pub Value : Type 0
Value = Result (ℕ × Place) Fault

-- A VALUE, and what the reader gives; its place lies within the part, and the value below a bound
abbrev pub value_read : (s : List ℕ) (r : Value) → Read ℕ
value_read s (Ok (v, q)) = ok v (left_at s q.at)
value_read s (Err f) = refusal s f

abbrev pub value_place : (r : Value) → ℕ
value_place (Ok (v, q)) = q.at
value_place (Err f) = fault_bit f

abbrev pub value_below : (bound : ℕ) (r : Value) → Type 0
value_below bound (Ok (v, q)) = v < bound
value_below bound (Err f) = Unit {0}

pub record ValueAgrees (s : List ℕ) (x : Read ℕ) (bound : ℕ) (r : Value) : Type 0 where
  pub is : x ≡ value_read s r
  pub within : value_place r ≤ 8 * length s
  pub small : value_below bound r

-- the factor before the next one, where one is
abbrev pub before : (previous : Option ℕ) → option.Option ℕ
before None = option.none
before (Some factor) = option.some factor

-- a factor that a delta names, or refusal 12 where it lies outside 0..63
abbrev pub judged : (factor : ℤ) (next : Place) (at : ℕ) → Value
judged factor next at = cond {A = Value} (le_z (pos 0) factor && le_z factor (pos 63)) (Ok (nat_abs factor, next)) (Err (fault.BadFactor at))
