-- An entry of the list agrees with its frame. Assumes nothing.
use mathlib.Core.Path.{◌≡◌, sym, ap, ◌∙◌}
use mathlib.Core.List.{List, [], ◌∷◌}
use mathlib.Core.Bool.{true}
use Prim.Native.Nat.{ℕ, ◌+◌, ◌*◌, ◌<◌}
use native.Mathlib.Omega.{arith}
use lib.ListN.{length, take}
use Rattle.buffers.specs.Walk.{AtMost}
use Rattle.rules.specs.Layout.{frame_size}
use Rattle.rules.specs.Record.{Rec, Legal, rec_of, CodesInRange}
use Rattle.rules.specs.Fields.{fields}
use Rattle.rules.specs.Frame.{frame_of}
use Rattle.rules.specs.Refusals.{delivered}
use Rattle.rules.specs.Stage.{StageLent, encode_frame}
use Rattle.rules.specs.Reader.{ReaderLent, ReaderLeft, reader_has_room, read_frame}
use Rattle.rules.specs.declared.Mode.TheVariants.{Held}
use Rattle.rules.specs.declared.Layout.{Layout}
use Rattle.rules_demands.proofs.Stores.{record_front}
use Rattle.rules_demands.proofs.Demand3.{Framed, frame-bytes, strict_sound}
use Rattle.rules_demands.proofs.Deliveries.{Reads, reads, front_length, reads_record}
use Rattle.rules_demands.proofs.Calls.{FrameOf}
use Rattle.rules_demands.proofs.StageCalls.{record_in, stage_head, stage_packed, stage_read, held-codes}
use Rattle.rules_files.specs.List.{entry_numbers, entry_at, write_list, list_entry}
use Rattle.rules_files.proofs.ListCalls.{list_back}
use Rattle.list_demands.specs.OwnRecords.{OwnRecord}
use Rattle.list_demands.proofs.SameHead.{same-level, same-boundary}

-- ---- the stage's frame and the strict reader

module _ (l : Layout) (t : StageLent) (level boundary pairs bits : ℕ) (e : (encode_frame l t).outcome ≡ delivered (level ∷ boundary ∷ pairs ∷ bits ∷ []))
    (u : ReaderLent) (q : take (frame_size l) u.frame ≡ take (frame_size l) (encode_frame l t).frame)
    (level' boundary' bits' : ℕ) (d : (read_frame l u).outcome ≡ delivered (level' ∷ boundary' ∷ bits' ∷ [])) where
  abbrev its : Rec
  its = record_in l level boundary (encode_frame l t)

  packed : FrameOf l its bits (take (frame_size l) (encode_frame l t).frame)
  packed = stage_packed l t level boundary pairs bits e

  -- the record that was read has this frame
  framed : (r : Rec) → Reads l u r bits' → Framed l r bits' (take (frame_size l) u.frame)
  framed r k =
      let whole : take (frame_size l) u.frame ≡ frame_of l its = q ∙ packed.bytes in
      strict_sound l k.sizes (take (frame_size l) u.frame) (rw whole (frame-bytes l its packed.fits)) (front_length l u k.room) r bits' k.scan

  same-frame : (r : Rec) → Reads l u r bits' → frame_of l r ≡ frame_of l its
  same-frame r k = sym (framed r k).bytes ∙ q ∙ packed.bytes

  -- wherever the reader delivers at all, level and boundary are the stage's
  pub same_head : (level' ≡ level) × (boundary' ≡ boundary)
  unfolding rec_of
  same_head =
      let (r, p, p', k) = reads l u level' boundary' bits' d in
      let f = framed r k in
      let h = stage_head l t level boundary pairs bits e in (
        sym p ∙ same-level l r its f.fits packed.fits (same-frame r k) (omega (arith, f.legal.head.levels)) (omega (arith, h.0)),
        sym p' ∙ same-boundary l r its f.fits packed.fits (same-frame r k) (omega (arith, f.legal.head.boundaries)) (omega (arith, h.1)),
      )

  -- where it hands back the frame's own record, so are the bits
  pub same_bits : OwnRecord l t u → bits' ≡ bits
  same_bits own =
      let (r, p, p', k) = reads l u level' boundary' bits' d in
      let f = framed r k in
      let (v, b) = same_head in
      let is : r ≡ its = own_record own r k (p ∙ v) (p' ∙ b) f.legal in
      f.ends ∙ ap (λ x. length (fields l x)) is ∙ sym packed.ends
    where
      own_record : OwnRecord l t u → (r : Rec) → (k : Reads l u r bits') → r.level ≡ level → r.boundary ≡ boundary → Legal l r → r ≡ its
      own_record own r k v b h =
          sym (reads_record l u r bits' k h)
          ∙ sym (record_front l r.level r.boundary (read_frame l u).factors (read_frame l u).side (read_frame l u).codes)
          ∙ rw (own.factors, own.side, own.codes, v, b) (record_front l level boundary (encode_frame l t).factors (encode_frame l t).side
          (encode_frame l t).codes)

-- ---- LIST-AGREES

-- entry k of a written list of n entries holds what the stage answered
module _ (l : Layout) (t : StageLent) (level boundary pairs bits : ℕ) (e : (encode_frame l t).outcome ≡ delivered (level ∷ boundary ∷ pairs ∷ bits ∷ []))
    (n : ℕ) (entries list : List ℕ) (few : n < 4294967296) (words : AtMost 4294967295 entries) (w : (write_list n entries list).outcome ≡ delivered [])
    (k : ℕ) (h : k < n) (holds : entry_numbers (entry_at entries k) ≡ level ∷ boundary ∷ pairs ∷ bits ∷ []) where
  -- the list's bytes
  abbrev written : List ℕ
  written = take (9 + n * 8) (write_list n entries list).list

  said : list_entry written k ≡ delivered (level ∷ boundary ∷ pairs ∷ bits ∷ [])
  said = (list_back n entries few words list w).entry k h ∙ ap delivered holds

  module _ (u : ReaderLent) (q : take (frame_size l) u.frame ≡ take (frame_size l) (encode_frame l t).frame) where
    module _ (level' boundary' bits' : ℕ) (d : (read_frame l u).outcome ≡ delivered (level' ∷ boundary' ∷ bits' ∷ [])) where
      -- Wherever the strict reader delivers on that frame, lookup k has its level and its boundary;
      pub head_agrees : list_entry written k ≡ delivered (level' ∷ boundary' ∷ pairs ∷ bits ∷ [])
      head_agrees = let (v, b) = same_head l t level boundary pairs bits e u q level' boundary' bits' d in said ∙ rw (v, b)

      -- where it hands back the frame's own record, lookup k has its level, its boundary and its bits.
      pub list_agrees : OwnRecord l t u → list_entry written k ≡ delivered (level' ∷ boundary' ∷ pairs ∷ bits' ∷ [])
      list_agrees own =
          let (v, b) = same_head l t level boundary pairs bits e u q level' boundary' bits' d in
          said ∙ rw (v, b, same_bits l t level boundary pairs bits e u q level' boundary' bits' d own)

    -- Whenever each code is in its range, the reader delivers, and lookup k has its level, its boundary and its bits.
    pub list_agrees_in_range : CodesInRange l level boundary (encode_frame l t).factors (encode_frame l t).codes → reader_has_room l u ≡ true
        → ((read_frame l u).outcome ≡ delivered (level ∷ boundary ∷ bits ∷ [])) × (list_entry written k ≡ delivered (level ∷ boundary ∷ pairs ∷ bits ∷ []))
    list_agrees_in_range range room = (ap (λ (x : ReaderLeft). x.outcome) (stage_read l t level boundary pairs bits e range u room q), said)

    -- In held mode with no premise on the codes.
    pub list_agrees_held : l.mode ≡ Held → reader_has_room l u ≡ true
        → ((read_frame l u).outcome ≡ delivered (level ∷ boundary ∷ bits ∷ [])) × (list_entry written k ≡ delivered (level ∷ boundary ∷ pairs ∷ bits ∷ []))
    list_agrees_held mode = list_agrees_in_range (held-codes l t level boundary pairs bits e mode)
