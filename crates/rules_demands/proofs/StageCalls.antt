-- Demand 3 said of the stage as it is called: its frame is that of the record that it leaves, and the strict reader hands that record back.
-- Assumes nothing.
use mathlib.Core.Path.{◌≡◌, refl, sym, ◌∙◌, ap}
use mathlib.Core.List.{List, [], ◌∷◌}
use mathlib.Core.Bool.{true}
use Prim.Native.Nat.{ℕ, ◌*◌, ◌≤◌, ◌<◌}
use native.Mathlib.Omega.{arith}
use borrow.Author.Tests.{le-leb}
use lib.Dec.{leb}
use lib.IntN.{ℤ}
use lib.Ieee.{Float}
use lib.ListN.{length, take, drop, length-append}
use Rattle.buffers.proofs.Tests.{and-true}
use Rattle.rules.specs.Layout.{LegalLayout, frame_size, spectrum_length, factor_length, side_length, has_room, part}
use Rattle.rules.specs.Record.{Rec, rec_of, legal_record, CodesInRange}
use Rattle.rules.specs.Frame.{field_end, frame_of}
use Rattle.rules.specs.Refusals.{delivered}
use Rattle.rules.specs.Lent.{overwrite}
use Rattle.rules.specs.Stage.{StageLent, StageLeft, stage_overwrite, stage_record, delivery, encode_frame}
use Rattle.rules.specs.Writer.{WriterLent, WriterLeft, writer_has_room, write_record}
use Rattle.rules.specs.Reader.{ReaderLent, reader_has_room, read_frame}
use Rattle.rules.specs.declared.Mode.TheVariants.{Held}
use Rattle.rules.specs.declared.Layout.{Layout}
use Rattle.rules.proofs.Layouts.{legal_sizes}
use Rattle.rules.proofs.Cuts.{part-of-front}
use Rattle.rules_demands.proofs.Demand3.{frame-length}
use Rattle.rules_demands.proofs.Stores.{record_front, legal-front}
use Rattle.rules_demands.proofs.MadeRecord.{front-small, made_factors, made_side, made_codes, made_silent, made_legal}
use Rattle.rules_demands.proofs.HeldCodes.{made_in_range}
use Rattle.rules_demands.proofs.Deliveries.{laid_front}
use Rattle.rules_demands.proofs.Calls.{Holds, handed, FrameOf, packed_written, read_after_write}
use Rattle.rules_demands.proofs.StageAnswers.{Passes, analysis_by, level_by, boundary_by, bits_by, passes, boundary-small, ends-done, delivers}

-- ---- buffers of the stated lengths, laid over longer ones, hold what they held

laid_room : {A : Type 0} (n : ℕ) (new old : List A) → length new ≡ n → leb n (length (overwrite new old)) ≡ true
laid_room n new old e = le-leb n (length (overwrite new old)) (omega (arith, length-append new (drop (length new) old)))

part_laid : {A : Type 0} (k n c : ℕ) (new old : List A) → length new ≡ n * k → c < n → part k (overwrite new old) c ≡ part k new c
part_laid k n c new old e h = sym (part-of-front k n c (overwrite new old) h) ∙ ap (λ xs. part k xs c) (laid_front (n * k) new old e)

codes_laid : (l : Layout) (level boundary : ℕ) (F x : List ℕ) (C y : List ℤ) → length F ≡ factor_length l → length C ≡ spectrum_length l
    → CodesInRange l level boundary (overwrite F x) (overwrite C y) → CodesInRange l level boundary F C
codes_laid l level boundary F x C y f c h i j b p q g =
    rw (part_laid 128 l.channels i F x f p, part_laid 1024 l.channels i C y c p) at (h i j b p q g)

laid_codes : (l : Layout) (level boundary : ℕ) (F x : List ℕ) (C y : List ℤ) → length F ≡ factor_length l → length C ≡ spectrum_length l
    → CodesInRange l level boundary F C → CodesInRange l level boundary (overwrite F x) (overwrite C y)
laid_codes l level boundary F x C y f c h i j b p q g =
    rw (part_laid 128 l.channels i F x f p, part_laid 1024 l.channels i C y c p) (h i j b p q g)

module _ (l : Layout) (level boundary : ℕ) (F S : List ℕ) (C : List ℤ) (x y : List ℕ) (z : List ℤ)
    (f : length F ≡ factor_length l) (s : length S ≡ side_length l) (c : length C ≡ spectrum_length l) where
  record_laid : rec_of l level boundary (overwrite F x) (overwrite S y) (overwrite C z) ≡ rec_of l level boundary F S C
  record_laid =
      sym (record_front l level boundary (overwrite F x) (overwrite S y) (overwrite C z))
      ∙ rw (laid_front (factor_length l) F x f, laid_front (side_length l) S y s, laid_front (spectrum_length l) C z c)

  legal_laid : legal_record l level boundary (overwrite F x) (overwrite S y) (overwrite C z) ≡ legal_record l level boundary F S C
  legal_laid =
      sym (legal-front l level boundary (overwrite F x) (overwrite S y) (overwrite C z))
      ∙ rw (laid_front (factor_length l) F x f, laid_front (side_length l) S y s, laid_front (spectrum_length l) C z c)

-- the record that lies in what a call left
abbrev pub record_in : Layout → ℕ → ℕ → StageLeft → Rec
record_in l level boundary x = rec_of l level boundary x.factors x.side x.codes

-- ---- DEMAND 3, for a call of the stage that delivered level, boundary, pairs and n bits

module _ (l : Layout) (t : StageLent) (level boundary pairs n : ℕ) (e : (encode_frame l t).outcome ≡ delivered (level ∷ boundary ∷ pairs ∷ n ∷ [])) where
  -- what it answered and left is what the rules make
  record Done : Type 0 where
    passed : Passes l t
    small : level_by l t ≤ 254
    fits : bits_by l t ≤ field_end l
    left : encode_frame l t ≡ stage_overwrite t (delivery l (analysis_by l t))
    levels : level ≡ level_by l t
    boundaries : boundary ≡ boundary_by l t
    bits : n ≡ bits_by l t

  done : Done
  done =
      let k = passes l t (rw e (omega arith)) in
      let (h, g, q) = (delivers l t (level ∷ boundary ∷ pairs ∷ n ∷ []) k).0 e in
      record { passed = k; small = h; fits = g; left = ends-done l t k h g; levels = cc; boundaries = cc; bits = cc }

  sizes : LegalLayout l
  sizes = legal_sizes l done.passed.layout

  -- its lengths
  abbrev spectra : List Float
  spectra = take (spectrum_length l) t.spectra

  abbrev intensities : List ℕ
  intensities = take (side_length l) t.intensities

  factors-size : length (analysis_by l t).found.factors ≡ factor_length l
  factors-size = made_factors l spectra intensities

  side-size : length (analysis_by l t).side ≡ side_length l
  side-size = made_side l spectra intensities

  codes-size : length (analysis_by l t).codes ≡ spectrum_length l
  codes-size = made_codes l spectra intensities

  abbrev its : Rec
  its = stage_record l (analysis_by l t)

  frame_size_lem : length (frame_of l its) ≡ frame_size l
  frame_size_lem = frame-length l sizes its

  left_record : record_in l level boundary (encode_frame l t) ≡ its
  unfolding delivery stage_record
  left_record = rw (done.left, done.levels, done.boundaries) (record_laid l _ _ _ _ _ _ _ _ factors-size side-size codes-size)

  left-frame : take (frame_size l) (encode_frame l t).frame ≡ frame_of l its
  unfolding delivery
  left-frame = rw done.left (laid_front (frame_size l) (frame_of l its) t.frame frame_size_lem)

  -- Unconditionally: the level and the boundary are in their ranges, the boundary 0 at level 0,
  pub stage_head : (level ≤ 254) × (boundary ≤ 127) × (level ≡ 0 → boundary ≡ 0)
  stage_head = rw (done.levels, done.boundaries) (done.small, boundary-small l t, made_silent l spectra intensities)

  -- and the frame is that of the record that the call left, every field of it, n bits in all.
  pub stage_packed : FrameOf l (record_in l level boundary (encode_frame l t)) n (take (frame_size l) (encode_frame l t).frame)
  stage_packed = rw (left_record, left-frame) (record { fits = done.fits; ends = done.bits; bytes = refl })

  -- the record as the writer would be lent it
  abbrev lent : WriterLent
  lent = record {
    level = level;
    boundary = boundary;
    factors = (encode_frame l t).factors;
    side = (encode_frame l t).side;
    codes = (encode_frame l t).codes;
    frame =
        (encode_frame l t).frame;
  }

  lent-room : writer_has_room l lent ≡ true
  unfolding has_room delivery
  lent-room =
      rw done.left
      (and-true (laid_room _ (analysis_by l t).found.factors t.factors factors-size)
      (and-true (laid_room _ (analysis_by l t).side t.side side-size)
      (and-true (laid_room _ (analysis_by l t).codes t.codes codes-size) (laid_room _ (frame_of l its) t.frame frame_size_lem))))

  -- Where each code is in its range:
  module _ (range : CodesInRange l level boundary (encode_frame l t).factors (encode_frame l t).codes) where
    made_range : CodesInRange l (level_by l t) (boundary_by l t) (analysis_by l t).found.factors (analysis_by l t).codes
    unfolding delivery
    made_range = codes_laid l _ _ _ _ _ _ factors-size codes-size (rw (done.left, done.levels, done.boundaries) at range)

    -- the record is legal;
    pub stage_legal : legal_record l level boundary (encode_frame l t).factors (encode_frame l t).side (encode_frame l t).codes ≡ true
    unfolding delivery
    stage_legal =
        rw (done.left, done.levels, done.boundaries)
        (legal_laid l _ _ _ _ _ _ _ _ factors-size side-size codes-size
        ∙ made_legal l spectra intensities sizes (front-small l t.intensities done.passed.intensities) done.small made_range)

    -- the record writer, lent this record in any buffers, delivers the same frame and the same bit count;
    pub stage_written : (w : WriterLent) → writer_has_room l w ≡ true
        → Holds l w level boundary (encode_frame l t).factors (encode_frame l t).side (encode_frame l t).codes
        → write_record l w ≡ record {
          outcome = delivered (level ∷ boundary ∷ n ∷ []);
          frame =
              overwrite (take (frame_size l) (encode_frame l t).frame) w.frame;
        }
    stage_written w m h = packed_written l w level boundary _ _ _ h n _ sizes m stage_legal stage_packed

    -- and the strict reader, lent this frame, hands exactly this record back.
    pub stage_read : (u : ReaderLent) → reader_has_room l u ≡ true → take (frame_size l) u.frame ≡ take (frame_size l) (encode_frame l t).frame
        → read_frame l u ≡ handed l u (level ∷ boundary ∷ n ∷ []) (encode_frame l t).factors (encode_frame l t).side (encode_frame l t).codes
    stage_read u m q =
        let w = stage_written lent lent-room (record { levels = refl; boundaries = refl; factors = refl; side = refl; codes = refl }) in
        let f : take (frame_size l) (write_record l lent).frame ≡ take (frame_size l) (encode_frame l t).frame =
        rw w (laid_front (frame_size l) (take (frame_size l) (encode_frame l t).frame) (encode_frame l t).frame (rw left-frame frame_size_lem)) in
        read_after_write l lent u (level ∷ boundary ∷ n ∷ []) (ap (λ (x : WriterLeft). x.outcome) w) m (q ∙ sym f)

  -- IN HELD MODE (request A9) each code is in its range, so the same holds with no other premise.
  module _ (mode : l.mode ≡ Held) where
    pub held-codes : CodesInRange l level boundary (encode_frame l t).factors (encode_frame l t).codes
    unfolding delivery
    held-codes = rw (done.left, done.levels, done.boundaries)
        (laid_codes l _ _ _ _ _ _ factors-size codes-size (made_in_range l spectra intensities sizes mode))

    pub held-legal : legal_record l level boundary (encode_frame l t).factors (encode_frame l t).side (encode_frame l t).codes ≡ true
    held-legal = stage_legal held-codes

    pub held-written : (w : WriterLent) → writer_has_room l w ≡ true
        → Holds l w level boundary (encode_frame l t).factors (encode_frame l t).side (encode_frame l t).codes
        → write_record l w ≡ record {
          outcome = delivered (level ∷ boundary ∷ n ∷ []);
          frame =
              overwrite (take (frame_size l) (encode_frame l t).frame) w.frame;
        }
    held-written = stage_written held-codes

    pub held_read : (u : ReaderLent) → reader_has_room l u ≡ true → take (frame_size l) u.frame ≡ take (frame_size l) (encode_frame l t).frame
        → read_frame l u ≡ handed l u (level ∷ boundary ∷ n ∷ []) (encode_frame l t).factors (encode_frame l t).side (encode_frame l t).codes
    held_read = stage_read held-codes
