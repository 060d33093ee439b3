-- Refusal 14: what the fill's answer says, and what is found after it. A place is counted from the first bit of the part.
use Rattle.std.specs.Prelude.{◌≡◌, List, Option, Some, None, Result, Ok, Err, ℕ, ◌+◌, ◌*◌, ◌≤◌, length}
use Rattle.std.proofs.Math.Option as option
use Rattle.bits.specs.Place.{left_at}
use Rattle.rules.specs.declared.RecordDelivery.{RecordDelivery}
use Rattle.rules.specs.declared.ReadRefusal.{ReadRefusal}
use Rattle.rules.specs.declared.ReadRefusal.TheVariants as read
use Rattle.reader_channels.specs.declared.level_and_boundary.Head.{Head}

-- the fill's first 1 as the bits left there, and that the bit is one of the part's
abbrev pub fill_read : (part : List ℕ) (r : Option ℕ) → option.Option ℕ
fill_read part None = option.none
fill_read part (Some b) = option.some (length (left_at part b))

abbrev pub FillEnds : (part : List ℕ) (r : Option ℕ) → Type 0
FillEnds part None = Unit {0}
FillEnds part (Some b) = b ≤ 8 * length part

pub record Filled (part : List ℕ) (x : option.Option ℕ) (r : Option ℕ) : Type 0 where
  pub is : x ≡ fill_read part r
  pub within : FillEnds part r

-- what is found after the last code, by the fill: a frame's bit is the part's and the sync's 16
abbrev pub FillIn : (r : Option ℕ) → Type 0
FillIn None = Unit {0}
FillIn (Some b) = b ≤ 8 * 65535

abbrev pub fill_found : (head : Head) (r : Option ℕ) → Result RecordDelivery ReadRefusal
fill_found head None = Ok (record { level = head.level; boundary = head.boundary; bits = head.next.at + 16 })
fill_found head (Some b) = Err (read.FillNotZero (b + 16))
