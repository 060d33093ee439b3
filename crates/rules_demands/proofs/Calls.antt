-- Demand 3 said of the record writer and the strict reader as they are called: what one delivers, the other takes back. Assumes nothing.
use mathlib.Core.Path.{◌≡◌, sym, ◌∙◌, ap}
use mathlib.Core.List.{List, [], ◌∷◌}
use mathlib.Core.Logic.{◌↔◌}
use mathlib.Core.Bool.{true}
use Prim.Native.Nat.{ℕ, ◌≤◌}
use lib.IntN.{ℤ}
use lib.ListN.{length, take}
use Rattle.bits.specs.Bits.{Bytes}
use Rattle.rules.specs.Layout.{legal_layout, LegalLayout, frame_size, spectrum_length, factor_length, side_length}
use Rattle.rules.specs.Record.{Rec, rec_of, legal_record, store_factors, store_side, store_codes}
use Rattle.rules.specs.Fields.{fields}
use Rattle.rules.specs.Frame.{field_end, frame_of}
use Rattle.rules.specs.Reading.{accepted, strict}
use Rattle.rules.specs.Refusals.{delivered}
use Rattle.rules.specs.Lent.{overwrite}
use Rattle.rules.specs.Writer.{WriterLent, WriterLeft, writer_has_room, lent_record, write_record}
use Rattle.rules.specs.Reader.{ReaderLent, ReaderLeft, reader_has_room, read_frame}
use Rattle.rules.specs.declared.Layout.{Layout}
use Rattle.rules_demands.proofs.Demand3.{Framed, strict_complete, injective}
use Rattle.rules_demands.proofs.Stores.{record_front, legal-front}
use Rattle.rules_demands.proofs.Deliveries.{writes, writes_this, writes-legal, writes-frame, writes-stored, RecordWith, reads, reads_this, framed_reads}
use Rattle.rules_demands.proofs.Deliveries.{reads_framed, reads_record, reads-legal}

-- ---- what the statements name

-- the record that is lent is this one: its level and boundary, and its buffers over the stated lengths
pub record Holds (l : Layout) (t : WriterLent) (level boundary : ℕ) (F S : List ℕ) (C : List ℤ) : Type 0 where
  pub levels : t.level ≡ level
  pub boundaries : t.boundary ≡ boundary
  pub factors : take (factor_length l) t.factors ≡ take (factor_length l) F
  pub side : take (side_length l) t.side ≡ take (side_length l) S
  pub codes : take (spectrum_length l) t.codes ≡ take (spectrum_length l) C

-- what the reader leaves when it hands back a record that lies in F, S and C: its values over the stated lengths, the rest as it was
abbrev pub handed : Layout → ReaderLent → List ℕ → List ℕ → List ℕ → List ℤ → ReaderLeft
handed l u ns F S C = record {
  outcome = delivered ns;
  factors = overwrite (take (factor_length l) F) u.factors;
  side = overwrite (take (side_length l) S) u.side;
  codes = overwrite (take (spectrum_length l) C) u.codes;
}

-- the frame is this record's, be it legal or not: its fields fit, and they end at bit n
pub record FrameOf (l : Layout) (r : Rec) (n : ℕ) (f : List ℕ) : Type 0 where
  pub fits : length (fields l r) ≤ field_end l
  pub ends : n ≡ length (fields l r)
  pub bytes : f ≡ frame_of l r

-- ---- a record that is lent, by what holds it

-- the record and the test of it look at the stated lengths alone
module _ (l : Layout) (t : WriterLent) (level boundary : ℕ) (F S : List ℕ) (C : List ℤ) (h : Holds l t level boundary F S C) where
  holds_record : lent_record l t ≡ rec_of l level boundary F S C
  unfolding lent_record
  holds_record =
      sym (record_front l t.level t.boundary t.factors t.side t.codes)
      ∙ rw (h.levels, h.boundaries, h.factors, h.side, h.codes) (record_front l level boundary F S C)

  holds-legal : legal_record l t.level t.boundary t.factors t.side t.codes ≡ legal_record l level boundary F S C
  holds-legal =
      sym (legal-front l t.level t.boundary t.factors t.side t.codes)
      ∙ rw (h.levels, h.boundaries, h.factors, h.side, h.codes) (legal-front l level boundary F S C)

  -- a record that passes the test is written as its frame, from any buffers that hold it
  pub packed_written : (n : ℕ) (f : List ℕ) → LegalLayout l → writer_has_room l t ≡ true → legal_record l level boundary F S C ≡ true
      → FrameOf l (rec_of l level boundary F S C) n f
      → write_record l t ≡ record { outcome = delivered (level ∷ boundary ∷ n ∷ []); frame = overwrite f t.frame }
  packed_written n f z m legal k =
      writes_this l t (record { sizes = z; room = m; legal = holds-legal ∙ legal; fits = rw holds_record k.fits })
      ∙ rw (holds_record, h.levels, h.boundaries, ← k.ends, ← k.bytes)

lent-head : (l : Layout) (t t' : WriterLent) → lent_record l t ≡ lent_record l t' → (t.level ≡ t'.level) × (t.boundary ≡ t'.boundary)
unfolding lent_record rec_of
lent-head l t t' e = (ap (λ (r : Rec). r.level) e, ap (λ (r : Rec). r.boundary) e)

-- ---- DEMAND 3, for the calls

-- What is written is read back. Read a frame that the writer delivered, into any buffers with room: the answer (level, boundary, bits) is
-- the writer's, and the buffers hold the writer's record.
pub read_after_write : (l : Layout) (t : WriterLent) (u : ReaderLent) (ns : List ℕ) → (write_record l t).outcome ≡ delivered ns → reader_has_room l u ≡ true
    → take (frame_size l) u.frame ≡ take (frame_size l) (write_record l t).frame
    → read_frame l u ≡ handed l u ns t.factors t.side t.codes
unfolding lent_record rec_of
read_after_write l t u ns e m q =
    let w = writes l t ns e in
    let r = lent_record l t in
    let n = length (fields l r) in
    let p : strict l (take (frame_size l) u.frame) ≡ accepted r n = rw (q, writes-frame l t w) (strict_complete l r (writes-legal l t w) w.fits) in
    let a : delivered (t.level ∷ t.boundary ∷ n ∷ []) ≡ delivered ns = sym (ap (λ (x : WriterLeft). x.outcome) (writes_this l t w)) ∙ e in
    let (f, s, c) = writes-stored l t w in
    reads_this l u r n (record { sizes = w.sizes; room = m; scan = p })
    ∙ λ i. record { outcome = a i; factors = overwrite (f i) u.factors; side = overwrite (s i) u.side; codes = overwrite (c i) u.codes }

-- What is read is written back. Write the record that the reader left, from any buffers that hold it, into any frame with room: the answer
-- is the reader's, and every byte of the frame is restored.
pub write_after_read : (l : Layout) (u : ReaderLent) (t : WriterLent) (level boundary n : ℕ) → Bytes u.frame
    → (read_frame l u).outcome ≡ delivered (level ∷ boundary ∷ n ∷ []) → writer_has_room l t ≡ true
    → Holds l t level boundary (read_frame l u).factors (read_frame l u).side (read_frame l u).codes
    → write_record l t ≡ record { outcome = delivered (level ∷ boundary ∷ n ∷ []); frame = overwrite (take (frame_size l) u.frame) t.frame }
write_after_read l u t level boundary n b e m h =
    let (r, p, q, k) = reads l u level boundary n e in
    let f = reads_framed l u r n k b in
    let is : rec_of l level boundary (read_frame l u).factors (read_frame l u).side (read_frame l u).codes
    ≡ r = rw (p, q) at (reads_record l u r n k f.legal) in
    packed_written l t level boundary _ _ _ h n (take (frame_size l) u.frame) k.sizes m (rw (p, q) at (reads-legal l u r n k f.legal))
    (record { fits = rw is f.fits; ends = rw is f.ends; bytes = rw is f.bytes })

-- The reader accepts exactly the frames of legal records: it delivers level, boundary and n just where a legal record with this level and
-- boundary has this frame and its fields end at bit n.
pub accepted_exactly : (l : Layout) (u : ReaderLent) (level boundary n : ℕ) → legal_layout l ≡ true → reader_has_room l u ≡ true → Bytes u.frame
    → ((read_frame l u).outcome ≡ delivered (level ∷ boundary ∷ n ∷ [])) ↔ RecordWith level boundary (λ r. Framed l r n (take (frame_size l) u.frame))
accepted_exactly l u level boundary n a m b = (
  (λ e. let (r, p, q, k) = reads l u level boundary n e in (r, p, q, reads_framed l u r n k b)),
  (λ x. let (r, p, q, f) = x in rw (reads_this l u r n (framed_reads l u r n a m f), p, q)),
)

-- That record is the one that lies in what the reader left.
pub accepted_record : (l : Layout) (u : ReaderLent) (r : Rec) (n : ℕ) → legal_layout l ≡ true → reader_has_room l u ≡ true
    → Framed l r n (take (frame_size l) u.frame)
    → rec_of l r.level r.boundary (read_frame l u).factors (read_frame l u).side (read_frame l u).codes ≡ r
accepted_record l u r n a m f = reads_record l u r n (framed_reads l u r n a m f) f.legal

-- Equal frames, equal records: two calls of the writer that deliver the same bytes were lent the same record.
pub equal_frames_equal_records : (l : Layout) (t t' : WriterLent) (ns ns' : List ℕ) → (write_record l t).outcome ≡ delivered ns → (write_record l t').outcome
    ≡ delivered ns'
    → take (frame_size l) (write_record l t).frame ≡ take (frame_size l) (write_record l t').frame
    → Holds l t t'.level t'.boundary t'.factors t'.side t'.codes
equal_frames_equal_records l t t' ns ns' e e' q =
    let w = writes l t ns e in
    let w' = writes l t' ns' e' in
    let same = injective l (lent_record l t) (lent_record l t') (writes-legal l t w) (writes-legal l t' w') w.fits w'.fits
    (sym (writes-frame l t w) ∙ q ∙ writes-frame l t' w') in
    let (f, s, c) = writes-stored l t w in
    let (f', s', c') = writes-stored l t' w' in
    let (v, b) = lent-head l t t' same in
    record {
      levels = v;
      boundaries = b;
      factors = sym f ∙ ap (store_factors l) same ∙ f';
      side = sym s ∙ ap (store_side l) same ∙ s';
      codes = sym c ∙ ap (store_codes l) same ∙ c';
    }
