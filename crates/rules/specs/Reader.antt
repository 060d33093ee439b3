-- The strict reader: what it answers and leaves in every lent buffer, for every call, refused ones too.
use Rattle.std.specs.Prelude.{List, [], ◌∷◌, Bool, cond, not, ℕ, ℤ, length, take, Result}
use Rattle.rules.specs.Layout.{legal_layout, frame_size, room_of, has_room}
use Rattle.rules.specs.Record.{store_factors, store_side, store_codes}
use Rattle.rules.specs.Reading.{Scanned, accepted, faulty, strict}
use Rattle.rules.specs.Refusals.{Outcome, delivered, refused, reader_outcome}
use Rattle.rules.specs.Lent.{overwrite, no_codes, no_factors, no_side}
use Rattle.rules.specs.declared.Layout.{Layout}
use Rattle.rules.specs.declared.RecordDelivery.{RecordDelivery}
use Rattle.rules.specs.declared.ReadRefusal.{ReadRefusal}

pub record ReaderLent : Type 0 where
  pub frame : List ℕ
  pub factors : List ℕ
  pub side : List ℕ
  pub codes : List ℤ

pub record ReaderLeft : Type 0 where
  pub outcome : Outcome
  pub factors : List ℕ
  pub side : List ℕ
  pub codes : List ℤ

abbrev pub reader_lent : (frame factors side : List ℕ) (codes : List ℤ) → ReaderLent
reader_lent frame factors side codes = record { frame = frame; factors = factors; side = side; codes = codes }

abbrev pub reader_left : (answer : Result RecordDelivery ReadRefusal) (factors side : List ℕ) (codes : List ℤ) → ReaderLeft
reader_left answer factors side codes = record { outcome = reader_outcome answer; factors = factors; side = side; codes = codes }

abbrev pub reader_has_room : (l : Layout) (t : ReaderLent) → Bool
reader_has_room l t = has_room l (room_of (length t.factors) (length t.side) (length t.codes) (length t.frame))

-- of buffers of exactly document 01's lengths: the record that was read, or zeros
unfoldable pub scanned_left : (l : Layout) (scanned : Scanned) → ReaderLeft
scanned_left l (accepted r bit_count) = record {
  outcome = delivered (r.level ∷ r.boundary ∷ bit_count ∷ []);
  factors = store_factors l r;
  side = store_side l r;
  codes = store_codes l r;
}
scanned_left l (faulty number bit) = record { outcome = refused number bit; factors = no_factors l; side = no_side l; codes = no_codes l }

-- the same in longer buffers
abbrev pub reader_overwrite : (t : ReaderLent) (x : ReaderLeft) → ReaderLeft
reader_overwrite t x = record {
  outcome = x.outcome;
  factors = overwrite x.factors t.factors;
  side = overwrite x.side t.side;
  codes = overwrite x.codes t.codes;
}

-- refusals 1 and 2 change nothing
abbrev pub reader_kept : (t : ReaderLent) (o : Outcome) → ReaderLeft
reader_kept t o = record { outcome = o; factors = t.factors; side = t.side; codes = t.codes }

unfoldable pub read_frame : (l : Layout) (t : ReaderLent) → ReaderLeft
read_frame l t =
    cond (not (legal_layout l)) (reader_kept t (refused 1 0))
    (cond (not (reader_has_room l t)) (reader_kept t (refused 2 0))
    (reader_overwrite t (scanned_left l (strict l (take (frame_size l) t.frame)))))
