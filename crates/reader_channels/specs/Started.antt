-- How an answer on the way through a record says what the record's reader of the rules gives. `s` is the part of a frame between its sync and
-- its check.
use Rattle.std.specs.Prelude.{◌≡◌, List, Result, Ok, Err, ℕ, ◌*◌, ◌≤◌, length}
use Rattle.bits.specs.Bits.{bits_of}
use Rattle.bits.specs.Place.{left_at}
use Rattle.rules.specs.Format.{Read, Reader, pure, ◌>>=◌, each, times}
use Rattle.rules.specs.Layout.{kinds_of}
use Rattle.rules.specs.Record.{Chan, Rec, resolutions}
use Rattle.rules.specs.Reading.{read_channel, read_code, read_record}
use Rattle.rules.specs.declared.Layout.{Layout}
use Rattle.reader_channels.specs.Steps.{fault_bit, refusal}
use Rattle.reader_channels.specs.declared.values.faults.Fault.{Fault}
use Rattle.reader_channels.specs.declared.level_and_boundary.Head.{Head}

-- level, boundary and the place after the fields that were read, or a refusal
abbrev pub Opened : Type 0
Opened = Result Head Fault

-- what the record's reader gives: what `rest` reads at the place after the fields, with their level and boundary, or the refusal
abbrev pub head_read : (s : List ℕ) (rest : (level boundary : ℕ) → Reader Rec) (r : Opened) → Read Rec
head_read s rest (Ok h) = rest h.level h.boundary (left_at s h.next.at)
head_read s rest (Err f) = refusal s f

abbrev pub head_place : (r : Opened) → ℕ
head_place (Ok h) = h.next.at
head_place (Err f) = fault_bit f

-- what holds of level and boundary where nothing was refused
abbrev pub if_head : (r : Opened) (P : (level boundary : ℕ) → Type 0) → Type 0
if_head (Ok h) P = P h.level h.boundary
if_head (Err f) P = Unit {0}

pub record HeadAgrees (l : Layout) (s : List ℕ) (rest : (level boundary : ℕ) → Reader Rec) (P : (level boundary : ℕ) → Type 0) (r : Opened) : Type 0 where
  pub is : read_record l (bits_of s) ≡ head_read s rest r
  pub within : head_place r ≤ 8 * length s
  pub holds : if_head r P

-- the codes after the channels; the channels, and the codes after them
abbrev pub codes_then : (l : Layout) (level boundary : ℕ) (chans : List Chan) → Reader Rec
codes_then l level boundary chans =
    each (λ _. each (each read_code) (resolutions l level boundary chans)) (times 8)
    >>= λ codes. pure (record { level = level; boundary = boundary; chans = chans; codes = codes })

abbrev pub channels_then : (l : Layout) (level boundary : ℕ) → Reader Rec
channels_then l level boundary = each (read_channel l) (kinds_of l) >>= codes_then l level boundary

-- LEVEL AND BOUNDARY were read
abbrev pub Started : (l : Layout) (s : List ℕ) (r : Opened) → Type 0
Started l s r = HeadAgrees l s (channels_then l) (λ level _. level ≤ 511) r
