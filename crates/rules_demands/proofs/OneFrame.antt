-- Demand 3 for the calls: each legal record whose fields fit has exactly one frame. Assumes nothing.
use mathlib.Core.Path.{◌≡◌, sym, ◌∙◌, ap}
use mathlib.Core.List.{[], ◌∷◌, append-nil}
use mathlib.Core.Bool.{true}
use Prim.Native.Nat.{ℕ, ◌≤◌}
use lib.ListN.{length, take}
use Rattle.bits.specs.Bits.{Bytes}
use Rattle.rules.specs.Layout.{legal_layout, frame_size, spectrum_length, factor_length, side_length}
use Rattle.rules.specs.Record.{Rec, Legal, rec_of, legal_record, store_factors, store_side, store_codes}
use Rattle.rules.specs.Fields.{fields}
use Rattle.rules.specs.Frame.{field_end, frame_of}
use Rattle.rules.specs.Refusals.{delivered}
use Rattle.rules.specs.Lent.{overwrite}
use Rattle.rules.specs.Writer.{WriterLent, writer_has_room, write_record}
use Rattle.rules.specs.Reader.{ReaderLent, read_frame}
use Rattle.rules.specs.declared.Layout.{Layout}
use Rattle.rules.proofs.Layouts.{legal_sizes}
use Rattle.rules_demands.proofs.Stores.{stored, record_front}
use Rattle.rules_demands.proofs.LegalRecords.{stored-legal}
use Rattle.rules_demands.proofs.Deliveries.{reads, reads_framed, reads_record}
use Rattle.rules_demands.proofs.Calls.{Holds, packed_written}

-- At least one: a legal record whose fields fit, stored in any buffers with room, is delivered as its frame, with the sum of its field lengths.
pub legal-written : (l : Layout) (r : Rec) (t : WriterLent) → legal_layout l ≡ true → Legal l r → length (fields l r) ≤ field_end l → writer_has_room l t ≡ true
    → Holds l t r.level r.boundary (store_factors l r) (store_side l r) (store_codes l r)
    → write_record l t ≡ record { outcome = delivered (r.level ∷ r.boundary ∷ length (fields l r) ∷ []); frame = overwrite (frame_of l r) t.frame }
legal-written l r t a h f m holds =
    let z = legal_sizes l a in
    let is : rec_of l r.level r.boundary (store_factors l r) (store_side l r) (store_codes l r) ≡ r = simp append-nil at (stored l z r h [] [] []) in
    let legal : legal_record l r.level r.boundary (store_factors l r) (store_side l r) (store_codes l r)
    ≡ true = simp append-nil at (stored-legal l z r h [] [] []) in
    packed_written l t r.level r.boundary (store_factors l r) (store_side l r) (store_codes l r) holds (length (fields l r)) (frame_of l r) z m legal
    (record { fits = rw is f; ends = rw is; bytes = rw is })

-- At most one: two frames that the reader takes to the same record are equal over F bytes.
module _ (l : Layout) (u u' : ReaderLent) (level boundary n n' : ℕ) where
  pub same_record : Bytes u.frame → Bytes u'.frame
      → (read_frame l u).outcome ≡ delivered (level ∷ boundary ∷ n ∷ []) → (read_frame l u').outcome ≡ delivered (level ∷ boundary ∷ n' ∷ [])
      → take (factor_length l) (read_frame l u).factors ≡ take (factor_length l) (read_frame l u').factors
      → take (side_length l) (read_frame l u).side ≡ take (side_length l) (read_frame l u').side
      → take (spectrum_length l) (read_frame l u).codes ≡ take (spectrum_length l) (read_frame l u').codes
      → take (frame_size l) u.frame ≡ take (frame_size l) u'.frame
  same_record b b' e e' f s c =
      let (r, p, q, k) = reads l u level boundary n e in
      let (r', p', q', k') = reads l u' level boundary n' e' in
      let h = reads_framed l u r n k b in
      let h' = reads_framed l u' r' n' k' b' in
      let same : r ≡ r' =
      sym (rw (p, q) at (reads_record l u r n k h.legal))
      ∙ sym (record_front l level boundary (read_frame l u).factors (read_frame l u).side (read_frame l u).codes)
      ∙ rw (f, s, c) (record_front l level boundary (read_frame l u').factors (read_frame l u').side (read_frame l u').codes)
      ∙ (rw (p', q') at (reads_record l u' r' n' k' h'.legal)) in
      h.bytes ∙ ap (frame_of l) same ∙ sym h'.bytes
