-- Demand 3 said of `hca_write_record` and `hca_read_frame`, and of `hca_encode_frame` in held mode, by the numbers and slices that a C program lends and finds.
-- Assumes nothing.
use mathlib.Core.Path.{◌≡◌, refl, ◌∙◌, ap}
use mathlib.Core.List.{List, [], ◌∷◌}
use mathlib.Core.Bool.{true, not}
use mathlib.Core.Logic.{inl, inr}
use Prim.Native.Nat.{ℕ, ◌≤◌, ◌<◌}
use native.Mathlib.Omega.{arith}
use borrow.Author.Tests.{ltb-false, le-ltb, not-false}
use types.Run.{OneOf}
use lib.Dec.{ltb}
use lib.IntN.{ℤ}
use lib.ListN.{length, get_or, take}
use Rattle.bits.specs.Bits.{Bytes}
use Rattle.buffers.proofs.Tests.{cond_both}
use Rattle.rules.specs.Layout.{legal_layout, frame_size, spectrum_length, factor_length, side_length}
use Rattle.rules.specs.Fields.{fields}
use Rattle.rules.specs.Refusals.{Outcome, delivered, refused}
use Rattle.rules.specs.Reading.{Scanned, accepted, faulty, strict}
use Rattle.rules.specs.Lent.{overwrite}
use Rattle.rules.specs.Writer.{WriterLent, WriterLeft, writer_lent, writer_has_room, lent_record, write_record}
use Rattle.rules.specs.Reader.{ReaderLent, ReaderLeft, reader_has_room, scanned_left, read_frame}
use Rattle.rules.specs.Stage.{StageLent, encode_frame}
use Rattle.rules.specs.declared.Mode.TheVariants.{Held}
use Rattle.rules.specs.declared.Layout.{Layout}
use Rattle.rules.proofs.Answers.{Numbered, stage_numbers}
use Rattle.rules_demands.proofs.Deliveries.{writes, writes_this}
use Rattle.rules_demands.proofs.Calls.{read_after_write, write_after_read}
use Rattle.rules_demands.proofs.StageAnswers.{StageBounded, answers_bounded, beside_bounded, stage_bounds, stage_numbers_lem}
use Rattle.rules_demands.proofs.StageCalls.{held_read}
use Rattle.rules_demands.proofs.WriterExactly.{write_number}
use Rattle.rules_demands.proofs.ReaderExactly.{read_number}
use Rattle.hca_layout.specs.Layouts.{mode_of, layout_of, is_layout}
use Rattle.hca_answers.specs.Outcomes.{result_of, numbers_of, answer_after}
use Rattle.hca_encode.specs.EncodeFrame.{CStageLeft, c_stage_from, c_encode_frame}
use Rattle.hca_records.specs.WriteRecord.{CWriterLeft, c_writer_left, c_writer_from, c_write_record}
use Rattle.hca_records.specs.ReadFrame.{CReaderLeft, c_reader_left, c_reader_from, c_read_frame}

-- a refusal's number is not 0, so that result 0 is a delivery
delivery : (o : Outcome) → ((n k : ℕ) → o ≡ refused n k → 0 < n) → result_of o ≡ 0 → (ns : List ℕ) × (o ≡ delivered ns)
unfolding result_of
delivery (delivered ns) h e = (ns, refl)
delivery (refused n k) h e = absurd (omega (arith, h n k refl))

stored : (o : Outcome) (answer : List ℕ) (a b c : ℕ) → o ≡ delivered (a ∷ b ∷ c ∷ []) → 4 ≤ length answer → answer_after o answer
    ≡ overwrite (a ∷ b ∷ c ∷ []) answer
unfolding answer_after numbers_of
stored o answer a b c e h = rw (e, le-ltb (length answer) 4 h)

-- the two numbers of a head
head-is : (head : List ℕ) (a b : ℕ) → take 2 head ≡ a ∷ b ∷ [] → (2 ≤ length head) × (get_or head 0 0 ≡ a) × (get_or head 1 0 ≡ b)
head-is [] a b e = let z : ◌≡◌ {A = ℕ} 0 2 = ap length e in absurd (omega arith)
head-is (x ∷ []) a b e = let z : ◌≡◌ {A = ℕ} 1 2 = ap length e in absurd (omega arith)
head-is (x ∷ y ∷ head) a b e = (omega arith, (cc), (cc))

module _ (numbers kinds : List ℕ) where
  abbrev its : Layout
  its = layout_of numbers kinds

  -- ---- a call of the writer that returned 0

  module _ (head factors side : List ℕ) (codes : List ℤ) (frame answer : List ℕ) where
    abbrev lent : WriterLent
    lent = writer_lent (get_or head 0 0) (get_or head 1 0) factors side codes frame

    record Passed : Type 0 where
      named_is : is_layout numbers kinds ≡ true
      long : 4 ≤ length answer
      heads : 2 ≤ length head
      numbers_are : List ℕ
      delivers : (write_record its lent).outcome ≡ delivered numbers_are

    passed : (c_write_record numbers kinds head factors side codes frame answer).result ≡ 0 → Passed
    unfolding c_write_record c_writer_from result_of
    passed =
        let P : CWriterLeft → Type 0 = λ x. x.result ≡ 0 → Passed in
        cond_both P (not (is_layout numbers kinds)) (λ _ e. absurd (omega arith))
        (λ a. cond_both P (ltb (length answer) 4) (λ _ e. absurd (omega arith))
        (λ b. cond_both P (ltb (length head) 2) (λ _ e. absurd (omega arith))
        (λ c e. let (ns, d) = delivery (write_record its lent).outcome (write_number its lent) e in
        record { named_is = not-false _ a; long = ltb-false _ _ b; heads = ltb-false _ _ c; numbers_are = ns; delivers = d })))

    record_is : is_layout numbers kinds ≡ true → 4 ≤ length answer → 2 ≤ length head → c_write_record numbers kinds head factors side codes frame answer
        ≡ c_writer_from (write_record its lent) answer
    unfolding c_write_record
    record_is a b c = rw (a, le-ltb _ _ b, le-ltb _ _ c)

    -- its numbers are level and boundary as lent, and the sum of the field lengths
    abbrev stored-numbers : List ℕ
    stored-numbers = get_or head 0 0 ∷ get_or head 1 0 ∷ length (fields its (lent_record its lent)) ∷ []

    module _ (ok : (c_write_record numbers kinds head factors side codes frame answer).result ≡ 0) where
      written-numbers : (write_record its lent).outcome ≡ delivered stored-numbers
      written-numbers = ap (λ (x : WriterLeft). x.outcome) (writes_this its lent (writes its lent (passed ok).numbers_are (passed ok).delivers))

      record_answer : (c_write_record numbers kinds head factors side codes frame answer).answer ≡ overwrite stored-numbers answer
      unfolding c_writer_from
      record_answer = rw (record_is (passed ok).named_is (passed ok).long (passed ok).heads) (stored _ answer _ _ _ written-numbers (passed ok).long)

      record_frame : (c_write_record numbers kinds head factors side codes frame answer).frame ≡ (write_record its lent).frame
      unfolding c_writer_from
      record_frame = rw (record_is (passed ok).named_is (passed ok).long (passed ok).heads)

      -- The answer tells the level and the boundary that were lent.
      pub record_head : take 2 (c_write_record numbers kinds head factors side codes frame answer).answer ≡ get_or head 0 0 ∷ get_or head 1 0 ∷ []
      record_head = rw record_answer

      -- WRITTEN, THEN READ, into any buffers with room: the same three numbers, and the same buffers over their stated lengths.
      pub c_read_after_write : (u : ReaderLent) (stored-in : List ℕ) → reader_has_room its u ≡ true → 4 ≤ length stored-in
          → take (frame_size its) u.frame ≡ take (frame_size its) (c_write_record numbers kinds head factors side codes frame answer).frame
          → c_read_frame numbers kinds u stored-in
          ≡ c_reader_left 0 (overwrite (take 3 (c_write_record numbers kinds head factors side codes frame answer).answer) stored-in)
          (overwrite (take (factor_length its) factors) u.factors) (overwrite (take (side_length its) side) u.side)
          (overwrite (take (spectrum_length its) codes) u.codes)
      unfolding c_read_frame c_reader_from result_of
      c_read_after_write u stored-in m h q =
          let r = read_after_write its lent u stored-numbers written-numbers m (q ∙ ap (take (frame_size its)) record_frame) in
          rw (record_answer, (passed ok).named_is, le-ltb _ _ h, r)
          (ap (λ xs. c_reader_left 0 xs (overwrite (take (factor_length its) factors) u.factors) (overwrite (take (side_length its) side) u.side)
          (overwrite (take (spectrum_length its) codes) u.codes))
          (stored (delivered stored-numbers) stored-in _ _ _ refl h))

  -- ---- a call of the reader that returned 0

  module _ (u : ReaderLent) (answer : List ℕ) where
    -- a delivery tells three numbers
    record Three (o : Outcome) : Type 0 where
      level : ℕ
      boundary : ℕ
      bits : ℕ
      is : o ≡ delivered (level ∷ boundary ∷ bits ∷ [])

    three-of : (x : Scanned) (ns : List ℕ) → (scanned_left its x).outcome ≡ delivered ns → Three (scanned_left its x).outcome
    unfolding scanned_left
    three-of (accepted r n) ns e = record { level = r.level; boundary = r.boundary; bits = n; is = refl }
    three-of (faulty k p) ns e = let z : ◌≡◌ {A = ℕ} 0 1 = cc in absurd (omega arith)

    three : (ns : List ℕ) → (read_frame its u).outcome ≡ delivered ns → Three (read_frame its u).outcome
    unfolding read_frame
    three ns =
        let P : ReaderLeft → Type 0 = λ x. x.outcome ≡ delivered ns → Three x.outcome in
        cond_both P (not (legal_layout its)) (λ _ e. let z : ◌≡◌ {A = ℕ} 0 1 = cc in absurd (omega arith))
        (λ _. cond_both P (not (reader_has_room its u)) (λ _ e. let z : ◌≡◌ {A = ℕ} 0 1 = cc in absurd (omega arith))
        (λ _. three-of (strict its (take (frame_size its) u.frame)) ns))

    record Accepted : Type 0 where
      named_is : is_layout numbers kinds ≡ true
      long : 4 ≤ length answer
      stores : Three (read_frame its u).outcome

    accepts : (c_read_frame numbers kinds u answer).result ≡ 0 → Accepted
    unfolding c_read_frame c_reader_from result_of
    accepts =
        let P : CReaderLeft → Type 0 = λ x. x.result ≡ 0 → Accepted in
        cond_both P (not (is_layout numbers kinds)) (λ _ e. absurd (omega arith))
        (λ a. cond_both P (ltb (length answer) 4) (λ _ e. absurd (omega arith))
        (λ b e. let (ns, d) = delivery (read_frame its u).outcome (read_number its u) e in
        record { named_is = not-false _ a; long = ltb-false _ _ b; stores = three ns d }))

    returned_is : is_layout numbers kinds ≡ true → 4 ≤ length answer → c_read_frame numbers kinds u answer ≡ c_reader_from (read_frame its u) answer
    unfolding c_read_frame
    returned_is a b = rw (a, le-ltb _ _ b)

    -- READ, THEN WRITTEN, from any buffers that hold what was read and into any frame with room: the same three numbers, and the same F bytes.
    pub c_write_after_read : (c_read_frame numbers kinds u answer).result ≡ 0 → Bytes u.frame
        → (head factors side : List ℕ) (codes : List ℤ) (frame stored-in : List ℕ) → 4 ≤ length stored-in
        → writer_has_room its (writer_lent (get_or head 0 0) (get_or head 1 0) factors side codes frame) ≡ true
        → take 2 head ≡ take 2 (c_read_frame numbers kinds u answer).answer
        → take (factor_length its) factors ≡ take (factor_length its) (c_read_frame numbers kinds u answer).factors
        → take (side_length its) side ≡ take (side_length its) (c_read_frame numbers kinds u answer).side
        → take (spectrum_length its) codes ≡ take (spectrum_length its) (c_read_frame numbers kinds u answer).codes
        → c_write_record numbers kinds head factors side codes frame stored-in
        ≡ c_writer_left 0 (overwrite (take 3 (c_read_frame numbers kinds u answer).answer) stored-in) (overwrite (take (frame_size its) u.frame) frame)
    unfolding c_reader_from c_writer_from result_of
    c_write_after_read ok b head factors side codes frame stored-in h m e f s c =
        let k = accepts ok in
        let x = k.stores in
        let r : c_read_frame numbers kinds u answer ≡ c_reader_from (read_frame its u) answer = returned_is k.named_is k.long in
        let n : (c_read_frame numbers kinds u answer).answer ≡ overwrite (x.level ∷ x.boundary ∷ x.bits ∷ []) answer =
        rw r (stored _ answer _ _ _ x.is k.long) in
        let (two, first, second) = head-is head x.level x.boundary (e ∙ ap (take 2) n) in
        let w = write_after_read its u (writer_lent (get_or head 0 0) (get_or head 1 0) factors side codes frame) x.level x.boundary x.bits b x.is m
        (record { levels = first; boundaries = second; factors = f ∙ rw r; side = s ∙ rw r; codes = c ∙ rw r }) in
        rw (n, record_is head factors side codes frame stored-in k.named_is h two, w)
        (ap (λ xs. c_writer_left 0 xs (overwrite (take (frame_size its) u.frame) frame))
        (stored (delivered (x.level ∷ x.boundary ∷ x.bits ∷ [])) stored-in _ _ _ refl h))

  -- ---- a call of the stage that returned 0

  module _ (t : StageLent) (answer : List ℕ) where
    -- a delivery tells four numbers
    record Four (o : Outcome) : Type 0 where
      level : ℕ
      boundary : ℕ
      pairs : ℕ
      bits : ℕ
      is : o ≡ delivered (level ∷ boundary ∷ pairs ∷ bits ∷ [])

    numbered_above : (n : ℕ) → OneOf stage_numbers n → 0 < n
    numbered_above n (inl e) = omega arith
    numbered_above n (inr (inl e)) = omega arith
    numbered_above n (inr (inr (inl e))) = omega arith
    numbered_above n (inr (inr (inr (inl e)))) = omega arith
    numbered_above n (inr (inr (inr (inr (inl e))))) = omega arith
    numbered_above n (inr (inr (inr (inr (inr e))))) = omega arith

    four : (o : Outcome) → StageBounded o → Numbered stage_numbers o → result_of o ≡ 0 → Four o
    unfolding result_of
    four o (answers_bounded level boundary pairs bits a b c d) n e = record { level = level; boundary = boundary; pairs = pairs; bits = bits; is = refl }
    four o (beside_bounded number beside h) n e = absurd (omega (arith, numbered_above number (n number beside refl)))

    record Encodes : Type 0 where
      named_is : is_layout numbers kinds ≡ true
      long : 4 ≤ length answer
      stores : Four (encode_frame its t).outcome

    encodes : (c_encode_frame numbers kinds t answer).result ≡ 0 → Encodes
    unfolding c_encode_frame c_stage_from result_of
    encodes =
        let P : CStageLeft → Type 0 = λ x. x.result ≡ 0 → Encodes in
        cond_both P (not (is_layout numbers kinds)) (λ _ e. absurd (omega arith))
        (λ a. cond_both P (ltb (length answer) 4) (λ _ e. absurd (omega arith))
        (λ b e. record {
          named_is = not-false _ a;
          long = ltb-false _ _ b;
          stores =
              four (encode_frame its t).outcome (stage_bounds its t) (stage_numbers_lem its t) e;
        }))

    encoded_is : is_layout numbers kinds ≡ true → 4 ≤ length answer → c_encode_frame numbers kinds t answer ≡ c_stage_from (encode_frame its t) answer
    unfolding c_encode_frame
    encoded_is a b = rw (a, le-ltb _ _ b)

    stored-four : (o : Outcome) (a b c d : ℕ) → o ≡ delivered (a ∷ b ∷ c ∷ d ∷ []) → 4 ≤ length answer → answer_after o answer
        ≡ overwrite (a ∷ b ∷ c ∷ d ∷ []) answer
    unfolding answer_after numbers_of
    stored-four o a b c d e h = rw (e, le-ltb (length answer) 4 h)

    held_named : get_or numbers 7 0 ≡ 1 → its.mode ≡ Held
    unfolding layout_of
    held_named e = rw e

    -- ENCODED WITH MODE 1, THEN READ with the same layout's numbers, into any buffers with room: the same level, boundary and bits, and the same buffers over
    -- their stated lengths. No premise but that the call delivered.
    pub c_held_read : get_or numbers 7 0 ≡ 1 → (c_encode_frame numbers kinds t answer).result ≡ 0
        → (u : ReaderLent) (stored-in : List ℕ) → reader_has_room its u ≡ true → 4 ≤ length stored-in
        → take (frame_size its) u.frame ≡ take (frame_size its) (c_encode_frame numbers kinds t answer).frame
        → let x : CStageLeft = c_encode_frame numbers kinds t answer in
        c_read_frame numbers kinds u stored-in
        ≡ c_reader_left 0 (overwrite (get_or x.answer 0 0 ∷ get_or x.answer 1 0 ∷ get_or x.answer 3 0 ∷ []) stored-in)
        (overwrite (take (factor_length its) x.factors) u.factors) (overwrite (take (side_length its) x.side) u.side)
        (overwrite (take (spectrum_length its) x.codes) u.codes)
    unfolding c_read_frame c_reader_from c_stage_from result_of
    c_held_read mode ok u stored-in m h q =
        let k = encodes ok in
        let x = k.stores in
        let r = encoded_is k.named_is k.long in
        let s = encode_frame its t in
        let v = held_read its t x.level x.boundary x.pairs x.bits x.is (held_named mode) u m
        (q ∙ ap (λ (y : CStageLeft). take (frame_size its) y.frame) r) in
        rw (r, stored-four s.outcome x.level x.boundary x.pairs x.bits x.is k.long, k.named_is, le-ltb _ _ h, v)
        (ap (λ xs. c_reader_left 0 xs (overwrite (take (factor_length its) s.factors) u.factors) (overwrite (take (side_length its) s.side) u.side)
        (overwrite (take (spectrum_length its) s.codes) u.codes)) (stored (delivered (x.level ∷ x.boundary ∷ x.bits ∷ [])) stored-in _ _ _ refl h))
