-- What a field read does at a bit place, and what a run of fields is that was written.
use Rattle.std.specs.Prelude.{ℕ, ◌+◌, ◌-◌, ◌*◌, ◌≤◌, ◌≡◌, List, ◌++◌, Bool, Result, Ok, Err, cond, length, take, drop, leb}
use Rattle.bits.specs.Bits.{bits_of, value, zeros}
use Rattle.bits.specs.declared.PastEnd.{PastEnd}
use Rattle.bits.specs.declared.Place.{Place}

-- the run bs stands at the start of s, zeros follow it, and p is its length. Of a run longer than s only the length is said
pub record Written (s : List ℕ) (p : ℕ) (bs : List Bool) : Type 0 where
  pub place : p ≡ length bs
  pub held : length bs ≤ 8 * length s → bits_of s ≡ bs ++ zeros (8 * length s - length bs)

-- the bits left at bit `at` of s
abbrev pub left_at : (s : List ℕ) (at : ℕ) → List Bool
left_at s at = drop at (bits_of s)

-- what reading a field finds: its value and the place after it, or that it passes the end
abbrev pub Found : Type 0
Found = Result (ℕ × Place) PastEnd

-- the `count` bits at bit `at` of s, or the place of a field that passes the end
abbrev pub field_at : (s : List ℕ) (at count : ℕ) → Found
field_at s at count =
    cond (leb (at + count) (8 * length s)) (Ok (value (take count (left_at s at)), record { at = at + count })) (Err (record { at = at }))

-- the number of the `count` bits at bit `at` of s, zeros standing past the end
abbrev pub look_at : (s : List ℕ) (at count : ℕ) → ℕ
look_at s at count = value (take count (left_at s at ++ zeros count))
