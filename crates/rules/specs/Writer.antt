-- The record writer: what it answers and leaves in the lent frame, for every call, refused ones too.
use Rattle.std.specs.Prelude.{List, [], ◌∷◌, Bool, cond, not, ℕ, ltb, ℤ, length, Result}
use Rattle.rules.specs.Layout.{legal_layout, room_of, has_room}
use Rattle.rules.specs.Record.{Rec, rec_of, legal_record}
use Rattle.rules.specs.Fields.{fields}
use Rattle.rules.specs.Frame.{field_end, frame_of}
use Rattle.rules.specs.Refusals.{Outcome, delivered, refused, writer_outcome}
use Rattle.rules.specs.Lent.{overwrite, no_frame}
use Rattle.rules.specs.declared.Layout.{Layout}
use Rattle.rules.specs.declared.RecordDelivery.{RecordDelivery}
use Rattle.rules.specs.declared.WriteRefusal.{WriteRefusal}

-- a record as it is lent, and the frame's buffer
pub record WriterLent : Type 0 where
  pub level : ℕ
  pub boundary : ℕ
  pub factors : List ℕ
  pub side : List ℕ
  pub codes : List ℤ
  pub frame : List ℕ

pub record WriterLeft : Type 0 where
  pub outcome : Outcome
  pub frame : List ℕ

abbrev pub writer_lent : (level boundary : ℕ) (factors side : List ℕ) (codes : List ℤ) (frame : List ℕ) → WriterLent
writer_lent level boundary factors side codes frame = record {
  level = level;
  boundary = boundary;
  factors = factors;
  side = side;
  codes = codes;
  frame = frame;
}

abbrev pub writer_left : (answer : Result RecordDelivery WriteRefusal) (frame : List ℕ) → WriterLeft
writer_left answer frame = record { outcome = writer_outcome answer; frame = frame }

abbrev pub writer_has_room : (l : Layout) (t : WriterLent) → Bool
writer_has_room l t = has_room l (room_of (length t.factors) (length t.side) (length t.codes) (length t.frame))

unfoldable pub lent_record : (l : Layout) (t : WriterLent) → Rec
lent_record l t = rec_of l t.level t.boundary t.factors t.side t.codes

-- refusals 1, 2 and 15 change nothing
abbrev pub writer_kept : (t : WriterLent) (o : Outcome) → WriterLeft
writer_kept t o = record { outcome = o; frame = t.frame }

-- refusals 15 and 7, beside 7 the bits that all fields need, of a legal layout and buffers that are long enough
unfoldable pub record_written : (l : Layout) (t : WriterLent) → WriterLeft
record_written l t =
    let bit_count = length (fields l (lent_record l t)) in
    cond (not (legal_record l t.level t.boundary t.factors t.side t.codes)) (writer_kept t (refused 15 0))
    (cond (ltb (field_end l) bit_count) (record { outcome = refused 7 bit_count; frame = overwrite (no_frame l) t.frame })
    (record { outcome = delivered (t.level ∷ t.boundary ∷ bit_count ∷ []); frame = overwrite (frame_of l (lent_record l t)) t.frame }))

-- refusals 1 and 2
unfoldable pub write_record : (l : Layout) (t : WriterLent) → WriterLeft
write_record l t =
    cond (not (legal_layout l)) (writer_kept t (refused 1 0))
    (cond (not (writer_has_room l t)) (writer_kept t (refused 2 0))
    (record_written l t))
