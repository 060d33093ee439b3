-- Demand 1: bad input is refused before a byte is stored, and a later refusal leaves zeros where document 01 says. Assumes nothing.
use mathlib.Core.Path.{◌≡◌, refl, sym, ◌∙◌}
use mathlib.Core.Bool.{Bool, true, false, cond, not, ◌&&◌, true≢false}
use mathlib.Core.Logic.{◌≢◌}
use mathlib.Core.List.{List}
use mathlib.Core.Option.{Option, none, some}
use Prim.Native.Nat.{ℕ, ◌≤◌, ◌<◌}
use native.Mathlib.Omega.{arith}
use borrow.Author.Tests.{lt-ltb, le-ltb}
use lib.Dec.{ltb}
use lib.IntN.{ℤ}
use lib.Ieee.{Float}
use lib.ListN.{length, take}
use Rattle.buffers.specs.Walk.{first}
use Rattle.buffers.proofs.Tests.{cond_both}
use Rattle.rules.specs.Layout.{legal_layout, frame_size, spectrum_length, side_length}
use Rattle.rules.specs.Record.{legal_record}
use Rattle.rules.specs.Fields.{fields}
use Rattle.rules.specs.Frame.{field_end}
use Rattle.rules.specs.Refusals.{Outcome, delivered, refused}
use Rattle.rules.specs.Reading.{Scanned, accepted, faulty, strict}
use Rattle.rules.specs.Lent.{overwrite, no_floats, no_codes, no_factors, no_side, no_frame}
use Rattle.rules.specs.Stage.{StageLent, StageLeft, stage_kept, cleared, stage_overwrite, behind_gate, stage_room, stage_has_room, bad_intensity, bad_spectrum}
use Rattle.rules.specs.Stage.{gate, Analysis, analysis, stage_record, delivery, after_packing, after_level, encode_frame}
use Rattle.rules.specs.Writer.{WriterLent, WriterLeft, writer_has_room, lent_record, record_written, write_record}
use Rattle.rules.specs.Reader.{ReaderLent, ReaderLeft, reader_has_room, reader_kept, scanned_left, reader_overwrite, read_frame}
use Rattle.rules.specs.declared.Layout.{Layout}
use Rattle.rules.proofs.Answers.{never}

-- ---- the stage: 1 to 4 keep every buffer, 5 and 7 clear the stated lengths

-- that there is no level is judged before the fields' length
pub settled_none : (l : Layout) (m : Analysis) → 254 < m.found.level → after_level l m ≡ cleared l (refused 5 m.found.pairs)
unfolding after_level after_packing
settled_none l m h = rw (lt-ltb 254 m.found.level h)

-- beside refusal 7 stands the sum of all field lengths
pub settled_long : (l : Layout) (m : Analysis) → m.found.level ≤ 254 → field_end l < length (fields l (stage_record l m)) → after_level l m
    ≡ cleared l (refused 7 (length (fields l (stage_record l m))))
unfolding after_level after_packing
settled_long l m h g = rw (le-ltb 254 m.found.level h, lt-ltb (field_end l) (length (fields l (stage_record l m))) g)

module _ (l : Layout) (t : StageLent) where
  abbrev Holds : StageLeft → List Float → List ℤ → List ℕ → List ℕ → List ℕ → Type 0
  Holds x scaled codes factors side frame = (x.scaled ≡ scaled) × (x.codes ≡ codes) × (x.factors ≡ factors) × (x.side ≡ side) × (x.frame ≡ frame)

  abbrev Leaves : StageLeft → Type 0
  Leaves x =
      (n k : ℕ) → x.outcome ≡ refused n k →
      (n ≤ 4 → Holds x t.scaled t.codes t.factors t.side t.frame)
      × (5 ≤ n → Holds x (overwrite (no_floats l) t.scaled) (overwrite (no_codes l) t.codes) (overwrite (no_factors l) t.factors)
      (overwrite (no_side l) t.side) (overwrite (no_frame l) t.frame))

  keeps : (a b : ℕ) → a ≤ 4 → Leaves (stage_kept t (refused a b))
  keeps a b h n k e = let z : a ≡ n = cc e in (λ _. (refl, refl, refl, refl, refl), λ g. absurd (omega arith))

  clears : (a b : ℕ) → 5 ≤ a → Leaves (stage_overwrite t (cleared l (refused a b)))
  clears a b h n k e = let z : a ≡ n = cc e in (λ g. absurd (omega arith), λ _. (refl, refl, refl, refl, refl))

  abbrev Clears : StageLeft → Type 0
  Clears x = Leaves (stage_overwrite t x)

  settled_leaves : (m : Analysis) → Clears (after_level l m)
  unfolding after_level after_packing delivery
  settled_leaves m =
      cond_both Clears (ltb 254 m.found.level) (λ _. clears 5 m.found.pairs (omega arith))
      (λ _. cond_both Clears (ltb (field_end l) (length (fields l (stage_record l m)))) (λ _. clears 7 (length (fields l (stage_record l m))) (omega arith))
      (λ _ n k e. never e))

  pub refused-leaves : Leaves (encode_frame l t)
  unfolding encode_frame gate behind_gate
  refused-leaves =
      let i : ℕ = first (bad_intensity l t.intensities) (side_length l) in
      let s : ℕ = first (bad_spectrum t.spectra) (spectrum_length l) in
      let x : StageLeft = after_level l (analysis l (take (spectrum_length l) t.spectra) (take (side_length l) t.intensities)) in
      let P : Option Outcome → Type 0 = λ g. Leaves (behind_gate g t x) in
      cond_both P (not (legal_layout l)) (λ _. keeps 1 0 (omega arith))
      (λ _. cond_both P (not (stage_has_room l (stage_room t))) (λ _. keeps 2 0 (omega arith))
      (λ _. cond_both P (ltb i (side_length l)) (λ _. keeps 3 i (omega arith))
      (λ _. cond_both P (ltb s (spectrum_length l)) (λ _. keeps 4 s (omega arith))
      (λ _. settled_leaves (analysis l (take (spectrum_length l) t.spectra) (take (side_length l) t.intensities))))))

-- ---- the record writer: 15 is judged before 7 and keeps the frame, 7 clears it

module _ (l : Layout) (t : WriterLent) where
  -- a record that is not legal is refused with 15, whether its fields would fit or not
  pub not-legal : legal_layout l ≡ true → writer_has_room l t ≡ true → legal_record l t.level t.boundary t.factors t.side t.codes ≡ false
      → write_record l t ≡ record { outcome = refused 15 0; frame = t.frame }
  unfolding write_record record_written
  not-legal a m e = rw (a, m, e)

  pub record_long : legal_record l t.level t.boundary t.factors t.side t.codes ≡ true → field_end l < length (fields l (lent_record l t)) →
      record_written l t ≡ record { outcome = refused 7 (length (fields l (lent_record l t))); frame = overwrite (no_frame l) t.frame }
  unfolding record_written
  record_long e h = rw (e, lt-ltb (field_end l) (length (fields l (lent_record l t))) h)

  abbrev WriteLeaves : WriterLeft → Type 0
  WriteLeaves x = (n k : ℕ) → x.outcome ≡ refused n k → (n ≢ 7 → x.frame ≡ t.frame) × (n ≡ 7 → x.frame ≡ overwrite (no_frame l) t.frame)

  write_keeps : (a : ℕ) → a ≢ 7 → WriteLeaves (record { outcome = refused a 0; frame = t.frame })
  write_keeps a h n k e = let z : a ≡ n = cc e in (λ _. refl, λ g. absurd (h (z ∙ g)))

  pub write_leaves : WriteLeaves (write_record l t)
  unfolding write_record record_written
  write_leaves =
      cond_both WriteLeaves (not (legal_layout l)) (λ _. write_keeps 1 (λ e. absurd (omega arith)))
      (λ _. cond_both WriteLeaves (not (writer_has_room l t)) (λ _. write_keeps 2 (λ e. absurd (omega arith)))
      (λ _. cond_both WriteLeaves (not (legal_record l t.level t.boundary t.factors t.side t.codes))
      (λ _. write_keeps 15 (λ e. absurd (omega arith)))
      (λ _. cond_both WriteLeaves (ltb (field_end l) (length (fields l (lent_record l t))))
      (λ _ n k e. let z : 7 ≡ n = cc e in (λ g. absurd (g (sym z)), λ _. refl))
      (λ _ n k e. never e))))

-- ---- the strict reader: 1 and 2 keep every buffer, the others clear the stated lengths

module _ (l : Layout) (t : ReaderLent) where
  pub read_keeps : legal_layout l && reader_has_room l t ≡ false → ((read_frame l t).factors ≡ t.factors) × ((read_frame l t).side ≡ t.side)
      × ((read_frame l t).codes ≡ t.codes)
  unfolding read_frame
  read_keeps = by_cases (legal_layout l) (reader_has_room l t)
    where
      by_cases : (a b : Bool) → a && b ≡ false →
          let x : ReaderLeft = cond (not a) (reader_kept t (refused 1 0))
          (cond (not b) (reader_kept t (refused 2 0)) (reader_overwrite t (scanned_left l (strict l (take (frame_size l) t.frame))))) in
          (x.factors ≡ t.factors) × (x.side ≡ t.side) × (x.codes ≡ t.codes)
      by_cases false b e = (refl, refl, refl)
      by_cases true false e = (refl, refl, refl)
      by_cases true true e = absurd (true≢false e)

  abbrev Cleared : ReaderLeft → Type 0
  Cleared x = (x.factors ≡ overwrite (no_factors l) t.factors) × (x.side ≡ overwrite (no_side l) t.side) × (x.codes ≡ overwrite (no_codes l) t.codes)

  left_clears : (s : Scanned) (n k : ℕ) → (scanned_left l s).outcome ≡ refused n k → Cleared (reader_overwrite t (scanned_left l s))
  unfolding scanned_left
  left_clears (accepted r c) n k e = never e
  left_clears (faulty a b) n k e = (refl, refl, refl)

  pub read_clears : legal_layout l ≡ true → reader_has_room l t ≡ true → (n k : ℕ) → (read_frame l t).outcome ≡ refused n k → Cleared (read_frame l t)
  unfolding read_frame
  read_clears legal room n k e = rw (legal, room) (left_clears (strict l (take (frame_size l) t.frame)) n k (rw (legal, room) at e))
