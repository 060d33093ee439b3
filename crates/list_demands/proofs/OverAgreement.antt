-- The list of a line, over any step: its entries are the line's answers, and each agrees with its frame, since that is the single call's, and that the
-- stage's. What it says of `encode_line` and of `encode_stereo_line` stands in LineAgreement.antt. Assumes nothing.
use mathlib.Core.Path.{◌≡◌, refl, sym, ap, ◌∙◌, subst}
use mathlib.Core.List.{List, [], ◌∷◌, ◌++◌, append-nil}
use mathlib.Core.Bool.{true}
use Prim.Native.Nat.{ℕ, ◌+◌, ◌*◌, ◌≤◌, ◌<◌}
use native.Mathlib.Omega.{arith}
use lib.ListN.{length, take, drop, length-append}
use lib.Seq.{take_all}
use Rattle.buffers.specs.Walk.{AtMost, blocks}
use Rattle.buffers.proofs.Blocks.{blocks_at, length-blocks}
use Rattle.rules.specs.Layout.{frame_size, factor_length, side_length, spectrum_length, part}
use Rattle.rules.specs.Record.{CodesInRange}
use Rattle.rules.specs.Refusals.{delivered}
use Rattle.rules.specs.Stage.{StageLent, encode_frame}
use Rattle.rules.specs.Reader.{ReaderLent, reader_has_room, read_frame}
use Rattle.rules.specs.declared.Layout.{Layout}
use Rattle.rules.proofs.Cuts.{part-of-front}
use Rattle.rules_stereo.specs.Stereo.{StereoLeft, with_signal, lent_signal}
use Rattle.rules_line.specs.Line.{LineLent, LineLeft, Step, frame_lent, line_over}
use Rattle.rules_files.specs.declared.list.Entry.{Entry}
use Rattle.rules_files.specs.List.{entry_numbers, entry_at, write_list, list_entry}
use Rattle.rules_files.proofs.Entries.{entries-front}
use Rattle.line_demands.proofs.Singles.{StepFacts}
use Rattle.line_demands.proofs.Standing.{all_lent, single, answers_at, Stands, ran, ended, answers-long, bytes-long}
use Rattle.line_demands.proofs.Over.{Admits, done_of, done_over, granted, standing, over-frame}
use Rattle.list_demands.proofs.StageEntries.{FromStage, stage_list_written}
use Rattle.list_demands.proofs.Agreement.{head_agrees, list_agrees, list_agrees_in_range}

-- the reader left a call's factors, side and codes, over the stated lengths: the frame's own record
pub record OwnLeft (l : Layout) (x : StereoLeft) (u : ReaderLent) : Type 0 where
  pub factors : take (factor_length l) (read_frame l u).factors ≡ take (factor_length l) x.factors
  pub side : take (side_length l) (read_frame l u).side ≡ take (side_length l) x.side
  pub codes : take (spectrum_length l) (read_frame l u).codes ≡ take (spectrum_length l) x.codes

module _ (step : Step) (late : List ℕ) (Keeps Clears : ℕ → Type 0) (facts : StepFacts step late Keeps Clears) (l : Layout) (count : ℕ) (t : LineLent)
    (a : Admits l count t) where
  -- one entry for each delivered frame: its four answers
  abbrev pub done : ℕ
  done = done_over step l count t

  abbrev pub answered : List ℕ
  answered = (line_over step l count t).answers

  abbrev pub entry_of : (k : ℕ) → Entry
  entry_of k = entry_at answered k

  -- frame k's own parts
  abbrev pub parts_of : (k : ℕ) → StageLent
  parts_of k = frame_lent l k (all_lent t)

  -- ---- the answers of a line are entries

  record Covered (x : LineLeft) : Type 0 where
    few : done_of x.index count ≤ count
    long : done_of x.index count * 4 ≤ length x.answers

  ran_long : (n : ℕ) (xs : List ℕ) → ((j : ℕ) → j < n → (single step l t j).outcome ≡ delivered (answers_at step l t j))
      → xs ≡ blocks (answers_at step l t) n ++ drop (n * 4) t.answers → n * 4 ≤ length xs
  ran_long n xs each e =
      let is : length (blocks (answers_at step l t) n) ≡ n * 4 =
      length-blocks (answers_at step l t) 4 n (λ j h. answers-long step late Keeps Clears facts l t count
      (granted step late Keeps Clears facts l count t a) j (each j h)) n (omega arith) in
      rw e (omega (arith, is, length-append (blocks (answers_at step l t) n) (drop (n * 4) t.answers)))

  covered_by : (x : LineLeft) → Stands step l t count x → Covered x
  covered_by x (ran i r) = record { few = rw i (omega arith); long = rw i (ran_long count x.answers r.each r.answers) }
  covered_by x (ended m g i j e) =
      record { few = rw i (omega arith); long = rw i (ran_long m x.answers e.before.each (e.answers ∙ e.before.answers)) }

  covered : Covered (line_over step l count t)
  covered = covered_by (line_over step l count t) (standing step late Keeps Clears facts l count t a)

  its-part : (k : ℕ) → k < done → part 4 answered k ≡ entry_numbers (entry_of k)
  its-part k h =
      sym (part-of-front 4 done k answered h)
      ∙ ap (λ ys. part 4 ys k) (sym (entries-front done answered covered.long) ∙ sym (append-nil (blocks (λ i. entry_numbers (entry_of i)) done)))
      ∙ blocks_at (λ i. entry_numbers (entry_of i)) 4 done (λ _ _. refl) done k [] (omega arith) h

  -- the single call on frame k delivered them, and its bytes stand among the frames
  delivers_entry : (k : ℕ) → k < done
      → ((single step l t k).outcome ≡ delivered (entry_numbers (entry_of k))) × ((single step l t k).frame
      ≡ part (frame_size l) (line_over step l count t).frames k)
  delivers_entry k h =
      let g = (granted step late Keeps Clears facts l count t a).room in
      let (o, f) = over-frame step late Keeps Clears facts l count t a k h t.scaled t.codes t.factors t.side
      (record { scaled = g.scaled; codes = g.codes; factors = g.factors; side = g.side }) in
      (o ∙ ap delivered (its-part k h), f)

  -- and what it left is the stage's
  made_by : (k : ℕ) → k < done → (v : StageLent) × (single step l t k ≡ with_signal (lent_signal v) (encode_frame l v))
  made_by k h = facts.staged l (parts_of k) (entry_numbers (entry_of k)) (delivers_entry k h).0

  stage_entry : (k : ℕ) (h : k < done) → (encode_frame l (made_by k h).0).outcome ≡ delivered (entry_numbers (entry_of k))
  stage_entry k h = ap (λ (x : StereoLeft). x.outcome) (sym (made_by k h).1) ∙ (delivers_entry k h).0

  -- The writer, lent the answers of a line, delivers wherever it has room.
  pub over-listed : (list : List ℕ) → 9 + done * 8 ≤ length list → (write_list done answered list).outcome ≡ delivered []
  over-listed list room =
      let made : (i : ℕ) → i < done → FromStage (entry_at answered i) = λ i h. (l, (made_by i h).0, stage_entry i h) in
      stage_list_written done answered list made covered.long room

  -- ---- each entry agrees with its frame

  module _ (list : List ℕ) (words : AtMost 4294967295 answered) (w : (write_list done answered list).outcome ≡ delivered []) (k : ℕ) (h : k < done) where
    -- the list's bytes
    abbrev pub listed : List ℕ
    listed = take (9 + done * 8) (write_list done answered list).list

    few : done < 4294967296
    few = omega (arith, covered.few, (granted step late Keeps Clears facts l count t a).batch.few)

    module _ (u : ReaderLent) (q : take (frame_size l) u.frame ≡ part (frame_size l) (line_over step l count t).frames k) where
      below : k < count
      below = omega (arith, covered.few)

      same : take (frame_size l) u.frame ≡ take (frame_size l) (encode_frame l (made_by k h).0).frame
      same =
          q ∙ sym (delivers_entry k h).1
          ∙ sym (take_all (frame_size l) (single step l t k).frame (omega (
            arith,
            bytes-long step late Keeps Clears facts l t count
                (granted step late Keeps Clears facts l count t a) k below,
          )))
          ∙ ap (λ (x : StereoLeft). take (frame_size l) x.frame) (made_by k h).1

      module _ (level' boundary' bits' : ℕ) (d : (read_frame l u).outcome ≡ delivered (level' ∷ boundary' ∷ bits' ∷ [])) where
        -- Wherever the strict reader delivers on frame k of a line, lookup k has its level and its boundary;
        pub over_head_agrees : list_entry listed k ≡ delivered (level' ∷ boundary' ∷ (entry_of k).pairs ∷ (entry_of k).bits ∷ [])
        over_head_agrees =
            head_agrees l (made_by k h).0 (entry_of k).level (entry_of k).boundary (entry_of k).pairs (entry_of k).bits (stage_entry k h)
            done answered list few words w k h refl u same level' boundary' bits' d

        -- where it hands back the frame's own record, that of the single call, lookup k has its level, its boundary and its bits.
        pub over_list_agrees : OwnLeft l (single step l t k) u → list_entry listed k ≡ delivered (level' ∷ boundary' ∷ (entry_of k).pairs ∷ bits' ∷ [])
        over_list_agrees own =
            let e = (made_by k h).1 in
            list_agrees l (made_by k h).0 (entry_of k).level (entry_of k).boundary (entry_of k).pairs (entry_of k).bits (stage_entry k h)
            done answered list few words w k h refl u same level' boundary' bits' d (record {
              factors = own.factors ∙ ap (λ (x : StereoLeft). take (factor_length l) x.factors) e;
              side = own.side ∙ ap (λ (x : StereoLeft). take (side_length l) x.side) e;
              codes = own.codes ∙ ap (λ (x : StereoLeft). take (spectrum_length l) x.codes) e;
            })

      -- Whenever each code is in its range, the reader delivers, and lookup k has its level, its boundary and its bits.
      pub over_agrees_in_range : CodesInRange l (entry_of k).level (entry_of k).boundary (single step l t k).factors (single step l t k).codes
          → reader_has_room l u ≡ true
          → ((read_frame l u).outcome ≡ delivered ((entry_of k).level ∷ (entry_of k).boundary ∷ (entry_of k).bits ∷ []))
          × (list_entry listed k ≡ delivered (entry_numbers (entry_of k)))
      over_agrees_in_range range room =
          list_agrees_in_range l (made_by k h).0 (entry_of k).level (entry_of k).boundary (entry_of k).pairs (entry_of k).bits (stage_entry k h)
          done answered list few words w k h refl u same
          (subst (λ (x : StereoLeft). CodesInRange l (entry_of k).level (entry_of k).boundary x.factors x.codes) (made_by k h).1 range) room
