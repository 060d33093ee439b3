-- How an answer says what a reader of the rules gives. `s` are the bytes after the sync; a place counts their bits from the first.
use Rattle.std.specs.Prelude.{◌≡◌, List, Result, Ok, Err, ℕ, ◌*◌, ◌≤◌, length}
use Rattle.bits.specs.Place.{left_at}
use Rattle.bits.specs.declared.Place.{Place}
use Rattle.rules.specs.Format.{Read, ok, bad}
use Rattle.reader_channels.specs.declared.values.faults.Fault.{Fault}
use Rattle.reader_channels.specs.declared.values.faults.Fault.TheVariants as fault

-- a place of a part, or its end; the part of a frame is short
pub record Inside (s : List ℕ) (at : ℕ) : Type 0 where
  pub within : at ≤ 8 * length s
  pub short : length s ≤ 65535

-- **Refusal numbers**: the number of a refusal, and the bit that it names
abbrev pub fault_number : (f : Fault) → ℕ
fault_number (fault.BadWidth bit) = 11
fault_number (fault.BadFactor bit) = 12
fault_number (fault.PastEnd bit) = 13

abbrev pub fault_bit : (f : Fault) → ℕ
fault_bit (fault.BadWidth bit) = bit
fault_bit (fault.BadFactor bit) = bit
fault_bit (fault.PastEnd bit) = bit

abbrev pub refusal : {A : Type 0} → (s : List ℕ) (f : Fault) → Read A
refusal s f = bad (fault_number f) (length (left_at s (fault_bit f)))

-- the place after the values that were stored, or a refusal
abbrev pub Step : Type 0
Step = Result Place Fault

-- VALUES THAT WERE STORED: what the reader gives is what they hold
abbrev pub step_read : {A : Type 0} → (s : List ℕ) (stored : A) (r : Step) → Read A
step_read s stored (Ok q) = ok stored (left_at s q.at)
step_read s stored (Err f) = refusal s f

abbrev pub step_place : (r : Step) → ℕ
step_place (Ok q) = q.at
step_place (Err f) = fault_bit f

pub record Done {A : Type 0} (s : List ℕ) (x : Read A) (stored : A) (r : Step) : Type 0 where
  pub is : x ≡ step_read s stored r
  pub within : step_place r ≤ 8 * length s

-- what holds where nothing was refused
abbrev pub if_done : (r : Step) (P : Type 0) → Type 0
if_done (Ok q) P = P
if_done (Err f) P = Unit {0}
