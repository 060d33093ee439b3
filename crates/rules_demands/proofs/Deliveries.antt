-- When the record writer and the strict reader deliver, and what they then leave. Assumes nothing.
use mathlib.Core.Path.{◌≡◌, ◌∙◌, ap}
use mathlib.Core.List.{List, [], ◌∷◌}
use mathlib.Core.Bool.{true, not}
use Prim.Native.Nat.{ℕ, ◌≤◌}
use native.Mathlib.Omega.{arith}
use borrow.Author.Tests.{ltb-false, le-ltb, not-false}
use lib.Dec.{ltb}
use lib.ListN.{length, take, drop}
use lib.Seq.{length-take-le, take_at}
use Rattle.bits.specs.Bits.{Bytes}
use Rattle.buffers.proofs.Tests.{cond_both}
use Rattle.rules.specs.Layout.{legal_layout, LegalLayout, frame_size, spectrum_length, factor_length, side_length, room_of, HasRoom}
use Rattle.rules.specs.Record.{Rec, Legal, rec_of, legal_record, store_factors, store_side, store_codes}
use Rattle.rules.specs.Fields.{fields}
use Rattle.rules.specs.Frame.{field_end, frame_of}
use Rattle.rules.specs.Reading.{Scanned, accepted, faulty, strict}
use Rattle.rules.specs.Refusals.{delivered, refused}
use Rattle.rules.specs.Lent.{overwrite}
use Rattle.rules.specs.Writer.{WriterLent, WriterLeft, writer_has_room, lent_record, record_written, write_record}
use Rattle.rules.specs.Reader.{ReaderLent, ReaderLeft, reader_has_room, scanned_left, read_frame}
use Rattle.rules.specs.declared.Layout.{Layout}
use Rattle.rules.proofs.Layouts.{legal_true, legal_sizes, room_facts}
use Rattle.rules_demands.proofs.Demand3.{bytes_take, Framed, frame-length, strict_complete, strict_sound}
use Rattle.rules_demands.proofs.Stores.{stored, record_front, legal-front}
use Rattle.rules_demands.proofs.LegalRecords.{record_legal, stored-legal, restored}

-- a refusal is no delivery
refusal : {A : Type 0} {k p : ℕ} {ns : List ℕ} → refused k p ≡ delivered ns → A
refusal e = let z : ◌≡◌ {A = ℕ} 0 1 = cc in absurd (omega arith)

-- the front of what was laid over a buffer is what was laid
pub laid_front : {A : Type 0} (n : ℕ) (new old : List A) → length new ≡ n → take n (overwrite new old) ≡ new
laid_front n new old e = take_at new (drop (length new) old) n e

-- ---- the record writer

-- it delivers just where all of this holds
pub record Writes (l : Layout) (t : WriterLent) : Type 0 where
  pub sizes : LegalLayout l
  pub room : writer_has_room l t ≡ true
  pub legal : legal_record l t.level t.boundary t.factors t.side t.codes ≡ true
  pub fits : length (fields l (lent_record l t)) ≤ field_end l

module _ (l : Layout) (t : WriterLent) where
  module _ (ns : List ℕ) where
    abbrev Wrote : WriterLeft → Type 0
    Wrote x = x.outcome ≡ delivered ns → Writes l t

    pub writes : (write_record l t).outcome ≡ delivered ns → Writes l t
    unfolding write_record record_written
    writes =
        cond_both Wrote (not (legal_layout l)) (λ _. refusal)
        (λ a. cond_both Wrote (not (writer_has_room l t)) (λ _. refusal)
        (λ b. cond_both Wrote (not (legal_record l t.level t.boundary t.factors t.side t.codes)) (λ _. refusal)
        (λ c. cond_both Wrote (ltb (field_end l) (length (fields l (lent_record l t)))) (λ _. refusal)
        (λ d _. record { sizes = legal_sizes l (not-false _ a); room = not-false _ b; legal = not-false _ c; fits = ltb-false _ _ d }))))

  pub writes_this : Writes l t → write_record l t ≡ record {
    outcome = delivered (t.level ∷ t.boundary ∷ length (fields l (lent_record l t)) ∷ []);
    frame = overwrite (frame_of l (lent_record l t)) t.frame;
  }
  unfolding write_record record_written
  writes_this w = rw (legal_true l w.sizes, w.room, w.legal, le-ltb _ _ w.fits)

-- its record is legal, the frame is the record's, and the buffers are what the record is stored as
module _ (l : Layout) (t : WriterLent) (w : Writes l t) where
  room : HasRoom l (room_of (length t.factors) (length t.side) (length t.codes) (length t.frame))
  room = room_facts l _ w.room

  pub writes-legal : Legal l (lent_record l t)
  unfolding lent_record
  writes-legal = record_legal l w.sizes t.level t.boundary t.factors t.side t.codes w.legal room.factors room.side room.codes

  pub writes-frame : take (frame_size l) (write_record l t).frame ≡ frame_of l (lent_record l t)
  writes-frame = rw (writes_this l t w) (laid_front (frame_size l) (frame_of l (lent_record l t)) t.frame (frame-length l w.sizes (lent_record l t)))

  pub writes-stored : (store_factors l (lent_record l t) ≡ take (factor_length l) t.factors) × (store_side l (lent_record l t) ≡ take (side_length l) t.side)
      × (store_codes l (lent_record l t) ≡ take (spectrum_length l) t.codes)
  unfolding lent_record
  writes-stored =
      rw (record_front l t.level t.boundary t.factors t.side t.codes) at
      (restored l w.sizes t.level t.boundary (take (factor_length l) t.factors) (take (side_length l) t.side) (take (spectrum_length l) t.codes)
      (legal-front l t.level t.boundary t.factors t.side t.codes ∙ w.legal)
      (length-take-le _ _ room.factors) (length-take-le _ _ room.side) (length-take-le _ _ room.codes))

-- ---- the strict reader

-- it delivers just where all of this holds
pub record Reads (l : Layout) (u : ReaderLent) (r : Rec) (n : ℕ) : Type 0 where
  pub sizes : LegalLayout l
  pub room : reader_has_room l u ≡ true
  pub scan : strict l (take (frame_size l) u.frame) ≡ accepted r n

-- there is such a record with this level and boundary
abbrev pub RecordWith : ℕ → ℕ → (Rec → Type 0) → Type 0
RecordWith level boundary P = (r : Rec) × (r.level ≡ level) × (r.boundary ≡ boundary) × P r

module _ (l : Layout) (u : ReaderLent) where
  module _ (level boundary n : ℕ) where
    scanned : (x : Scanned) → (scanned_left l x).outcome ≡ delivered (level ∷ boundary ∷ n ∷ []) → RecordWith level boundary (λ r. x ≡ accepted r n)
    unfolding scanned_left
    scanned (accepted r m) e = let q : m ≡ n = cc in (r, (cc), (cc), ap (accepted r) q)
    scanned (faulty k p) e = refusal e

    abbrev Got : ReaderLeft → Type 0
    Got x = x.outcome ≡ delivered (level ∷ boundary ∷ n ∷ []) → RecordWith level boundary (λ r. Reads l u r n)

    pub reads : (read_frame l u).outcome ≡ delivered (level ∷ boundary ∷ n ∷ []) → RecordWith level boundary (λ r. Reads l u r n)
    unfolding read_frame
    reads =
        cond_both Got (not (legal_layout l)) (λ _. refusal)
        (λ a. cond_both Got (not (reader_has_room l u)) (λ _. refusal)
        (λ b e. let (r, p, q, s) = scanned (strict l (take (frame_size l) u.frame)) e in
        (r, p, q, record { sizes = legal_sizes l (not-false _ a); room = not-false _ b; scan = s })))

  pub front_length : reader_has_room l u ≡ true → length (take (frame_size l) u.frame) ≡ frame_size l
  front_length m = length-take-le _ _ (room_facts l _ m).frame

  module _ (r : Rec) (n : ℕ) where
    pub framed_reads : legal_layout l ≡ true → reader_has_room l u ≡ true → Framed l r n (take (frame_size l) u.frame) → Reads l u r n
    framed_reads a m f = record { sizes = legal_sizes l a; room = m; scan = rw (f.bytes, f.ends) (strict_complete l r f.legal f.fits) }

    module _ (h : Reads l u r n) where
      pub reads_this : read_frame l u ≡ record {
        outcome = delivered (r.level ∷ r.boundary ∷ n ∷ []);
        factors = overwrite (store_factors l r) u.factors;
        side = overwrite (store_side l r) u.side;
        codes = overwrite (store_codes l r) u.codes;
      }
      unfolding read_frame scanned_left
      reads_this = rw (legal_true l h.sizes, h.room, h.scan)

      -- the frame is the record's
      pub reads_framed : Bytes u.frame → Framed l r n (take (frame_size l) u.frame)
      reads_framed b = strict_sound l h.sizes (take (frame_size l) u.frame) (bytes_take (frame_size l) u.frame b) (front_length h.room) r n h.scan

      -- the record lies in what is left, and everything unwritten there is 0
      pub reads_record : Legal l r → rec_of l r.level r.boundary (read_frame l u).factors (read_frame l u).side (read_frame l u).codes ≡ r
      reads_record k = rw reads_this (stored l h.sizes r k _ _ _)

      pub reads-legal : Legal l r → legal_record l r.level r.boundary (read_frame l u).factors (read_frame l u).side (read_frame l u).codes ≡ true
      reads-legal k = rw reads_this (stored-legal l h.sizes r k _ _ _)
