-- How the record writer comes to each of its answers, layer by layer. Assumes nothing.
use mathlib.Core.Path.{◌≡◌, refl, sym, ap, ◌∙◌}
use mathlib.Core.List.{List, [], ◌∷◌, ◌++◌, append-nil}
use mathlib.Core.Bool.{Bool, true, false, cond, not}
use Prim.Native.Nat.{ℕ, ◌*◌, ◌≤◌, ◌<◌}
use native.Mathlib.Omega.{arith}
use borrow.Author.Tests.{lt-ltb, le-ltb}
use lib.Dec.{ltb}
use Rattle.std.specs.Prelude.{Result, Ok, Err}
use lib.IntN.{ℤ}
use lib.ListN.{length, take, drop, replicate, length-replicate, take-append-drop, drop_of_length-le}
use lib.Seq.{length-take-le}
use Rattle.rules.specs.Layout.{LegalLayout, frame_size, spectrum_length, factor_length, side_length, legal_layout, room_of, has_room}
use Rattle.rules.specs.Record.{Rec, rec_of, legal_record}
use Rattle.rules.specs.Fields.{fields}
use Rattle.rules.specs.Frame.{field_end, frame_of}
use Rattle.rules.specs.Refusals.{Outcome, delivered, refused, writer_outcome}
use Rattle.rules.specs.Lent.{overwrite, no_frame}
use Rattle.rules.specs.Writer.{WriterLeft, writer_lent, writer_left, lent_record, record_written, write_record}
use Rattle.rules.specs.declared.Layout.{Layout}
use Rattle.rules.specs.declared.RecordDelivery.{RecordDelivery}
use Rattle.rules.specs.declared.WriteRefusal.{WriteRefusal}
use Rattle.rules.specs.declared.WriteRefusal.TheVariants.{BadLayout, ShortBuffer, NotLegal, TooLong}
use Rattle.rules_demands.proofs.Stores.{record_front, legal-front}
use Rattle.rules_demands.proofs.Demand3.{frame-length}

-- ---- the gate

module _ (l : Layout) (level boundary : ℕ) (F S : List ℕ) (C : List ℤ) (frame : List ℕ) where
  pub gate-layout : legal_layout l ≡ false → writer_left (Err BadLayout) frame ≡ write_record l (writer_lent level boundary F S C frame)
  unfolding write_record writer_outcome
  gate-layout e = rw e

  module _ (e : legal_layout l ≡ true) where
    pub gate-short : has_room l (room_of (length F) (length S) (length C) (length frame)) ≡ false → writer_left (Err ShortBuffer) frame
        ≡ write_record l (writer_lent level boundary F S C frame)
    unfolding write_record writer_outcome
    gate-short h = rw (e, h)

    pub room-granted : has_room l (room_of (length F) (length S) (length C) (length frame)) ≡ true → record_written l (writer_lent level boundary F S C frame)
        ≡ write_record l (writer_lent level boundary F S C frame)
    unfolding write_record
    room-granted h = rw (e, h)

-- ---- the run, on a frame of the stated length

laid_exact : (new old : List ℕ) → length old ≤ length new → overwrite new old ≡ new
laid_exact new old h = rw (drop_of_length-le old h, append-nil new)

blank-length : (l : Layout) → length (no_frame l) ≡ frame_size l
blank-length l = length-replicate (frame_size l) 0

module _ (l : Layout) (level boundary : ℕ) (F S : List ℕ) (C : List ℤ) (frame : List ℕ) where
  abbrev rec : Rec
  rec = rec_of l level boundary F S C

  abbrev left : (outcome : Outcome) (bytes : List ℕ) → WriterLeft
  left outcome bytes = record { outcome = outcome; frame = bytes }

  pub run_illegal : legal_record l level boundary F S C ≡ false → writer_left (Err NotLegal) frame ≡ record_written l (writer_lent level boundary F S C frame)
  unfolding record_written writer_outcome
  run_illegal e = rw e

  -- what the packer answers and stores
  module _ (z : LegalLayout l) (n : length frame ≡ frame_size l) (e : legal_record l level boundary F S C ≡ true)
      (count : ℕ) (bits : count ≡ length (fields l rec)) (bytes : List ℕ)
      (stored : bytes ≡ cond (ltb (field_end l) count) (replicate (frame_size l) 0) (frame_of l rec)) where
    -- refusal 7 or a success, by the test that was made
    run_by : (t : Bool) → ltb (field_end l) count ≡ t → (o : Outcome) → o ≡ cond t (refused 7 count) (delivered (level ∷ boundary ∷ count ∷ []))
        → left o bytes ≡ record_written l (writer_lent level boundary F S C frame)
    unfolding record_written lent_record
    run_by true h o f =
        let is : bytes ≡ overwrite (no_frame l) frame = stored ∙ rw h (sym (laid_exact (no_frame l) frame (omega (arith, blank-length l)))) in
        rw (f, e, ← bits, h, is)
    run_by false h o f =
        let is : bytes ≡ overwrite (frame_of l rec) frame = stored ∙ rw h (sym (laid_exact (frame_of l rec) frame (omega (arith, frame-length l z rec)))) in
        rw (f, e, ← bits, h, is)

    pub run_long : field_end l < count → writer_left (Err (TooLong count)) bytes ≡ record_written l (writer_lent level boundary F S C frame)
    unfolding writer_outcome
    run_long h = run_by true (lt-ltb (field_end l) count h) (refused 7 count) refl

    pub run_done : count ≤ field_end l
        → writer_left (Ok (record { level = level; boundary = boundary; bits = count })) bytes ≡ record_written l (writer_lent level boundary F S C frame)
    unfolding writer_outcome
    run_done h = run_by false (le-ltb (field_end l) count h) (delivered (level ∷ boundary ∷ count ∷ [])) refl

-- ---- the cut: a longer frame's rest stays, and nothing past the stated lengths is looked at

-- 2,048 are enough for the resolutions of 16 channels
pub lent-resolutions : (l : Layout) → LegalLayout l → length {A = ℕ} (take (l.channels * 128) (replicate 2048 0)) ≡ l.channels * 128
lent-resolutions l z = length-take-le (l.channels * 128) (replicate 2048 0) (omega arith)

-- with a rest behind the frame
abbrev behind : List ℕ → WriterLeft → WriterLeft
behind rest x = record { outcome = x.outcome; frame = x.frame ++ rest }

laid_front : (new old : List ℕ) (n : ℕ) → length new ≡ n → n ≤ length old → overwrite new (take n old) ++ drop n old ≡ overwrite new old
laid_front new old n e h =
    ap (λ xs. xs ++ drop n old) (laid_exact new (take n old) (omega (arith, length-take-le n old h)))
    ∙ ap (λ k. new ++ drop k old) (sym e)

-- of each of the three outcomes
behind-cond : (rest : List ℕ) (t u : Bool) (o₁ o₂ o₃ : Outcome) (f₁ f₂ f₃ g₁ g₂ g₃ : List ℕ) → f₁ ++ rest ≡ g₁ → f₂ ++ rest ≡ g₂ → f₃ ++ rest ≡ g₃ →
    behind rest (cond t (record { outcome = o₁; frame = f₁ }) (cond u (record { outcome = o₂; frame = f₂ }) (record { outcome = o₃; frame = f₃ })))
    ≡ cond t (record { outcome = o₁; frame = g₁ }) (cond u (record { outcome = o₂; frame = g₂ }) (record { outcome = o₃; frame = g₃ }))
behind-cond rest true u o₁ o₂ o₃ f₁ f₂ f₃ g₁ g₂ g₃ p q r = rw p
behind-cond rest false true o₁ o₂ o₃ f₁ f₂ f₃ g₁ g₂ g₃ p q r = rw q
behind-cond rest false false o₁ o₂ o₃ f₁ f₂ f₃ g₁ g₂ g₃ p q r = rw r

module _ (l : Layout) (z : LegalLayout l) (level boundary : ℕ) (F S : List ℕ) (C : List ℤ) (frame : List ℕ) (h : frame_size l ≤ length frame) where
  cut_open : behind (drop (frame_size l) frame)
      (record_written l (writer_lent level boundary (take (factor_length l) F) (take (side_length l) S) (take (spectrum_length l) C) (take (frame_size l) frame)))
      ≡ record_written l (writer_lent level boundary F S C frame)
  unfolding record_written lent_record
  cut_open =
      rw (legal-front l level boundary F S C, record_front l level boundary F S C)
      (behind-cond (drop (frame_size l) frame) (not (legal_record l level boundary F S C)) (ltb (field_end l) (length (fields l (rec_of l level boundary F S C)))) _
      _ _ _ _ _ _ _ _
      (take-append-drop (frame_size l) frame)
      (laid_front (no_frame l) frame (frame_size l) (blank-length l) h)
      (laid_front (frame_of l (rec_of l level boundary F S C)) frame (frame_size l) (frame-length l z (rec_of l level boundary F S C)) h))

  -- as `cut` answers it
  pub parts_left : (answer : Result RecordDelivery WriteRefusal) (left : List ℕ) →
      writer_left answer left ≡ record_written l (writer_lent level boundary (take (factor_length l) F) (take (side_length l) S) (take (spectrum_length l) C)
      (take (frame_size l) frame)) →
      writer_left answer (left ++ drop (frame_size l) frame) ≡ record_written l (writer_lent level boundary F S C frame)
  parts_left answer left e = ap (behind (drop (frame_size l) frame)) e ∙ cut_open
