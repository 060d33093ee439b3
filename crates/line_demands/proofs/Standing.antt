-- A line turn by turn, over any step: how it stands after n turns, by the single call on each frame as lent. Assumes nothing.
use mathlib.Core.Path.{◌≡◌, refl, sym, ◌∙◌, ap, subst}
use mathlib.Core.List.{List, [], ◌∷◌, ◌++◌}
use mathlib.Core.Option.{Option, none, some}
use mathlib.Core.Bool.{true}
use Prim.Native.Nat.{ℕ, zero, suc, ◌+◌, ◌-◌, ◌*◌, ◌≤◌, ◌<◌}
use native.Mathlib.Nat.{add-zero, add_assoc, zero-mul}
use native.Mathlib.Numerals.{add-one}
use native.Mathlib.Omega.{arith}
use lib.IntN.{ℤ}
use lib.Ieee.{Float}
use lib.ListN.{length, get_or, take, drop, take-append-drop}
use Rattle.buffers.specs.Walk.{sum_to, blocks}
use Rattle.buffers.proofs.Blocks.{blocks_start, blocks-rest, blocks-back}
use Rattle.rules.specs.Layout.{LegalLayout, frame_size, spectrum_length, side_length, part}
use Rattle.rules.specs.Refusals.{Outcome, delivered, refused}
use Rattle.rules.specs.Stage.{StageLent, stage_lent, stage_room, stage_has_room}
use Rattle.rules.specs.declared.Layout.{Layout}
use Rattle.rules.proofs.Cuts.{by_order, length_part}
use Rattle.rules_demands.proofs.StageAnswers.{StageBounded, answers_bounded, beside_bounded}
use Rattle.rules_stereo.specs.Stereo.{StereoLeft}
use Rattle.rules_line.specs.Line.{LineLent, LineLeft, line_room, Step, part_overwrite, frame_lent, step_at, answers_of, gained, tally_after, turn_outcome, turn_index}
use Rattle.rules_line.specs.Line.{line_turn, turn_lent, line_after}
use Rattle.rules_line.specs.declared.Tally.{Tally}
use Rattle.rules_line.proofs.Gates.{Admitted}
use Rattle.rules_line.proofs.Turns.{turn_after, after_next, after-ended}
use Rattle.line_demands.proofs.Singles.{Roomy, room-granted, SameCall, StepFacts}

-- ---- what the statements name

-- all that is lent to the frames, as buffers of a single call
abbrev pub all_lent : (t : LineLent) → StageLent
all_lent t = stage_lent t.spectra t.intensities t.scaled t.codes t.factors t.side t.frames

module _ (step : Step) where
  -- the single call on frame k's parts as lent: what it leaves, its spectra, intensities and bytes, and its answers
  abbrev pub single : (l : Layout) (t : LineLent) (k : ℕ) → StereoLeft
  single l t k = step l (frame_lent l k (all_lent t))

  abbrev pub spectra_at : (l : Layout) (t : LineLent) (k : ℕ) → List Float
  spectra_at l t k = (single l t k).spectra

  abbrev pub intensities_at : (l : Layout) (t : LineLent) (k : ℕ) → List ℕ
  intensities_at l t k = (single l t k).intensities

  abbrev pub bytes_at : (l : Layout) (t : LineLent) (k : ℕ) → List ℕ
  bytes_at l t k = (single l t k).frame

  abbrev pub answers_at : (l : Layout) (t : LineLent) (k : ℕ) → List ℕ
  answers_at l t k = answers_of (single l t k).outcome

  -- the tally with n delivered frames more: the third answer is pairs, the fourth bits
  abbrev pub tally_over : (l : Layout) (t : LineLent) (n : ℕ) → Tally
  tally_over l t n = record {
    frames = t.tally.frames + n;
    bits = t.tally.bits + sum_to (λ j. get_or (answers_at l t j) 3 0) n;
    pairs = t.tally.pairs + sum_to (λ j. get_or (answers_at l t j) 2 0) n;
  }

  -- n frames were tried: what the single calls leave stands one after the other, and what is behind them is as lent
  pub record Tried (l : Layout) (t : LineLent) (n : ℕ) (x : LineLeft) : Type 0 where
    pub spectra : x.spectra ≡ blocks (spectra_at l t) n ++ drop (n * spectrum_length l) t.spectra
    pub intensities : x.intensities ≡ blocks (intensities_at l t) n ++ drop (n * side_length l) t.intensities
    pub frames : x.frames ≡ blocks (bytes_at l t) n ++ drop (n * frame_size l) t.frames

  -- all of n frames were delivered: their answers stand one after the other too
  pub record Ran (l : Layout) (t : LineLent) (n : ℕ) (x : LineLeft) : Type 0 where
    pub outcome : x.outcome ≡ delivered []
    pub each : (j : ℕ) → j < n → (single l t j).outcome ≡ delivered (answers_at l t j)
    pub tried : Tried l t n x
    pub answers : x.answers ≡ blocks (answers_at l t) n ++ drop (n * 4) t.answers
    pub tally : x.tally ≡ tally_over l t n
    pub scaled : length x.scaled ≡ length t.scaled
    pub codes : length x.codes ≡ length t.codes
    pub factors : length x.factors ≡ length t.factors
    pub side : length x.side ≡ length t.side

  -- frame k was refused: its parts are the single call's, answers and tally are those of the k frames before it
  pub record Ended (l : Layout) (t : LineLent) (k : ℕ) (x : LineLeft) : Type 0 where
    pub before : Ran l t k (line_after step l t k)
    pub number : ℕ
    pub beside : ℕ
    pub refusal : (single l t k).outcome ≡ refused number beside
    pub outcome : x.outcome ≡ refused number beside
    pub tried : Tried l t (k + 1) x
    pub answers : x.answers ≡ (line_after step l t k).answers
    pub tally : x.tally ≡ (line_after step l t k).tally
    pub turn : x ≡ turn_after step l k (line_after step l t k)

  pub data Stands (l : Layout) (t : LineLent) (n : ℕ) (x : LineLeft) : Type 0 where
    ran : x.index ≡ none → Ran l t n x → Stands l t n x
    ended : (k : ℕ) → k < n → x.index ≡ some k → (line_after step l t k).index ≡ none → Ended l t k x → Stands l t n x

-- ---- one turn

bounded_four : (o : Outcome) → StageBounded o → (ns : List ℕ) → o ≡ delivered ns → length (answers_of o) ≡ 4
unfolding answers_of
bounded_four o (answers_bounded level boundary pairs bits a b c d) ns e = refl
bounded_four o (beside_bounded number beside h) ns e = let z : ◌≡◌ {A = ℕ} 0 1 = cc e in absurd (omega arith)

-- nothing laid over a part
none_laid : (k : ℕ) (xs : List ℕ) → part_overwrite 4 [] xs k ≡ xs
none_laid k xs = take-append-drop (k * 4) xs

-- a buffer with parts of n values, the first k of them as g says
module _ {A : Type 0} (g : ℕ → List A) (n count : ℕ) (size : (j : ℕ) → j < count → length (g j) ≡ n) (old xs : List A) (k : ℕ) (h : k < count)
    (e : xs ≡ blocks g k ++ drop (k * n) old) where
  -- part k is as lent
  area : part n xs k ≡ part n old k
  area = rw e (ap (take n) (blocks-rest g n count size k old (omega arith)))

  -- and is laid over
  laid_next : (new : List A) → new ≡ g k → part_overwrite n new xs k ≡ blocks g (k + 1) ++ drop ((k + 1) * n) old
  laid_next new q = rw (q, size k h, e) (blocks-back g n count size k old (omega arith))

-- none counted, and one more
tally-same : (f f' b b' p p' : ℕ) → f ≡ f' → b ≡ b' → p ≡ p'
    → ◌≡◌ {A = Tally} (record { frames = f; bits = b; pairs = p }) (record { frames = f'; bits = b'; pairs = p' })
tally-same f f' b b' p p' q r s = rw (q, r, s)

over_none : (step : Step) (l : Layout) (t : LineLent) → t.tally ≡ tally_over step l t 0
unfolding sum_to
over_none step l t = tally-same _ _ _ _ _ _ (sym (add-zero t.tally.frames)) (sym (add-zero t.tally.bits)) (sym (add-zero t.tally.pairs))

over_more : (step : Step) (l : Layout) (t : LineLent) (k : ℕ)
    → gained (tally_over step l t k) (get_or (answers_at step l t k) 3 0) (get_or (answers_at step l t k) 2 0) ≡ tally_over step l t (k + 1)
unfolding sum_to
over_more step l t k =
    rw (add-one k)
    (tally-same _ _ _ _ _ _ (omega arith)
    (add_assoc t.tally.bits (sum_to (λ j. get_or (answers_at step l t j) 3 0) k) (get_or (answers_at step l t k) 3 0))
    (add_assoc t.tally.pairs (sum_to (λ j. get_or (answers_at step l t j) 2 0) k) (get_or (answers_at step l t k) 2 0)))

module _ (step : Step) (late : List ℕ) (Keeps Clears : ℕ → Type 0) (facts : StepFacts step late Keeps Clears)
    (l : Layout) (t : LineLent) (count : ℕ) (a : Admitted l count (line_room t) (length t.answers) t.tally) where
  part-long : (k : ℕ) → k < count → length (part (frame_size l) t.frames k) ≡ frame_size l
  part-long k h = length_part (frame_size l) count k t.frames a.room.frames h

  pub lent_roomy : (k : ℕ) → k < count → Roomy l (frame_lent l k (all_lent t))
  lent_roomy k h = record {
    scaled = a.room.scaled;
    codes = a.room.codes;
    factors = a.room.factors;
    side = a.room.side;
    frame = omega (arith, part-long k h);
  }

  -- what is granted to a frame with work buffers that are long enough
  pub frame-granted : (u : StageLent) (k : ℕ) → k < count → u.spectra ≡ part (spectrum_length l) t.spectra k → u.intensities
      ≡ part (side_length l) t.intensities k → Roomy l u
      → stage_has_room l (stage_room u) ≡ true
  frame-granted u k h p q r =
      room-granted l u (omega (arith, ap length p, length_part (spectrum_length l) count k t.spectra a.room.spectra h))
      (omega (arith, ap length q, length_part (side_length l) count k t.intensities a.room.intensities h)) r

  -- what the single call leaves of a frame's parts is as long as they are
  pub spectra-long : (k : ℕ) → k < count → length (spectra_at step l t k) ≡ spectrum_length l
  spectra-long k h = (facts.long l a.layout (frame_lent l k (all_lent t)) (lent_roomy k h)).spectra
      ∙ length_part (spectrum_length l) count k t.spectra a.room.spectra h

  pub intensities-long : (k : ℕ) → k < count → length (intensities_at step l t k) ≡ side_length l
  intensities-long k h = (facts.long l a.layout (frame_lent l k (all_lent t)) (lent_roomy k h)).intensities
      ∙ length_part (side_length l) count k t.intensities a.room.intensities h

  pub bytes-long : (k : ℕ) → k < count → length (bytes_at step l t k) ≡ frame_size l
  bytes-long k h = (facts.long l a.layout (frame_lent l k (all_lent t)) (lent_roomy k h)).frame ∙ part-long k h

  pub answers-long : (k : ℕ) → (single step l t k).outcome ≡ delivered (answers_at step l t k) → length (answers_at step l t k) ≡ 4
  answers-long k e = bounded_four (single step l t k).outcome (facts.bounds l (frame_lent l k (all_lent t))) (answers_at step l t k) e

  -- the single call with other work buffers, long enough
  pub with_work : (u : StageLent) (k : ℕ) → k < count → u.spectra ≡ part (spectrum_length l) t.spectra k → u.intensities
      ≡ part (side_length l) t.intensities k
      → u.frame ≡ part (frame_size l) t.frames k → Roomy l u → SameCall (step l u) (single step l t k)
  with_work u k h p q e r =
      facts.any_work l u (frame_lent l k (all_lent t)) p q e
      (frame-granted u k h p q r ∙ sym (frame-granted (frame_lent l k (all_lent t)) k h refl refl (lent_roomy k h)))

  module _ (k : ℕ) (h : k < count) (x : LineLeft) (r : Ran step l t k x) where
    abbrev now : StageLent
    now = frame_lent l k (turn_lent x)

    -- its parts are as they were lent
    spectra_area : part (spectrum_length l) x.spectra k ≡ part (spectrum_length l) t.spectra k
    spectra_area = area (spectra_at step l t) (spectrum_length l) count spectra-long t.spectra x.spectra k h r.tried.spectra

    intensities_area : part (side_length l) x.intensities k ≡ part (side_length l) t.intensities k
    intensities_area = area (intensities_at step l t) (side_length l) count intensities-long t.intensities x.intensities k h r.tried.intensities

    frame_area : part (frame_size l) x.frames k ≡ part (frame_size l) t.frames k
    frame_area = area (bytes_at step l t) (frame_size l) count bytes-long t.frames x.frames k h r.tried.frames

    now_roomy : Roomy l now
    now_roomy = record {
      scaled = omega (arith, r.scaled, a.room.scaled);
      codes = omega (arith, r.codes, a.room.codes);
      factors = omega (arith, r.factors, a.room.factors);
      side = omega (arith, r.side, a.room.side);
      frame = omega (arith, ap length frame_area, part-long k h);
    }

    pub now-single : SameCall (step l now) (single step l t k)
    now-single = with_work now k h spectra_area intensities_area frame_area now_roomy

    tried_next : Tried step l t (k + 1) (turn_after step l k x)
    unfolding line_turn step_at
    tried_next = record {
      spectra =
          laid_next (spectra_at step l t) (spectrum_length l) count spectra-long t.spectra x.spectra k h r.tried.spectra (step l now).spectra
          now-single.spectra;
      intensities =
          laid_next (intensities_at step l t) (side_length l) count intensities-long t.intensities x.intensities k h r.tried.intensities
          (step l now).intensities now-single.intensities;
      frames =
          laid_next (bytes_at step l t) (frame_size l) count bytes-long t.frames x.frames k h r.tried.frames (step l now).frame now-single.frame;
    }

    -- frame k delivered too
    module _ (e : (single step l t k).outcome ≡ delivered (answers_at step l t k)) where
      each_next : (j : ℕ) → j < k + 1 → (single step l t j).outcome ≡ delivered (answers_at step l t j)
      each_next j g = by_order j k (λ lt. r.each j lt) (λ ge. let q : j ≡ k = omega arith in rw q e)

      answers_next : part_overwrite 4 (answers_at step l t k) x.answers k ≡ blocks (answers_at step l t) (k + 1) ++ drop ((k + 1) * 4) t.answers
      answers_next =
          laid_next (answers_at step l t) 4 (k + 1) (λ j g. answers-long j (each_next j g)) t.answers x.answers k (omega arith) r.answers
          (answers_at step l t k) refl

      tally-next : gained x.tally (get_or (answers_at step l t k) 3 0) (get_or (answers_at step l t k) 2 0) ≡ tally_over step l t (k + 1)
      tally-next = ap (λ (u : Tally). gained u (get_or (answers_at step l t k) 3 0) (get_or (answers_at step l t k) 2 0)) r.tally ∙ over_more step l t k

      now-delivered : (step l now).outcome ≡ delivered (answers_at step l t k)
      now-delivered = now-single.outcome ∙ e

      pub ran_more : Ran step l t (k + 1) (turn_after step l k x) × ((turn_after step l k x).index ≡ none)
      unfolding line_turn step_at turn_outcome turn_index answers_of tally_after
      ran_more =
          let w = facts.long l a.layout now now_roomy in (
            record {
              outcome = rw now-delivered;
              each = each_next;
              tried = tried_next;
              answers = rw now-delivered answers_next;
              tally = rw now-delivered tally-next;
              scaled = w.scaled ∙ r.scaled;
              codes = w.codes ∙ r.codes;
              factors = w.factors ∙ r.factors;
              side = w.side ∙ r.side;
            },
            rw now-delivered,
          )

    -- frame k refused
    module _ (number beside : ℕ) (e : (single step l t k).outcome ≡ refused number beside) where
      now-refused : (step l now).outcome ≡ refused number beside
      now-refused = now-single.outcome ∙ e

      pub ended_here : x ≡ line_after step l t k → Ended step l t k (turn_after step l k x) × ((turn_after step l k x).index ≡ some k)
      unfolding line_turn step_at turn_outcome turn_index answers_of tally_after
      ended_here q = (
        record {
          before = subst (Ran step l t k) q r;
          number = number;
          beside = beside;
          refusal = e;
          outcome = rw now-refused;
          tried = tried_next;
          answers = rw now-refused (none_laid k x.answers) ∙ ap (λ (y : LineLeft). y.answers) q;
          tally = rw now-refused (ap (λ (y : LineLeft). y.tally) q);
          turn = ap (turn_after step l k) q;
        },
        rw now-refused,
      )

  -- ---- every line

  ran_none : Ran step l t 0 (line_after step l t 0)
  unfolding line_after sum_to
  ran_none = record {
    outcome = refl;
    each = λ j h. absurd (omega arith);
    tried = record {
      spectra = rw (zero-mul (spectrum_length l)) (blocks_start (spectra_at step l t) t.spectra);
      intensities = rw (zero-mul (side_length l)) (blocks_start (intensities_at step l t) t.intensities);
      frames = rw (zero-mul (frame_size l)) (blocks_start (bytes_at step l t) t.frames);
    };
    answers = rw (zero-mul 4) (blocks_start (answers_at step l t) t.answers);
    tally = over_none step l t;
    scaled = refl;
    codes = refl;
    factors = refl;
    side = refl;
  }

  stands-next : (n : ℕ) → n < count → (line_after step l t n).index ≡ none → Ran step l t n (line_after step l t n) → (o : Outcome) → StageBounded o
      → (single step l t n).outcome ≡ o → Stands step l t (n + 1) (turn_after step l n (line_after step l t n))
  unfolding answers_of
  stands-next n h i r o (answers_bounded level boundary pairs bits _ _ _ _) e =
      let z : (single step l t n).outcome ≡ delivered (answers_at step l t n) = e ∙ rw e in
      let (q, w) = ran_more n h (line_after step l t n) r z in
      ran w q
  stands-next n h i r o (beside_bounded number beside _) e =
      let (q, w) = ended_here n h (line_after step l t n) r number beside e refl in
      ended n (omega arith) w i q

  further : (n : ℕ) → n < count → Stands step l t n (line_after step l t n) → Stands step l t (suc n) (line_after step l t (suc n))
  further n h (ran i r) =
      let z = stands-next n h i r (single step l t n).outcome (facts.bounds l (frame_lent l n (all_lent t))) refl in
      subst (Stands step l t (suc n)) (sym (after_next step l t n (line_after step l t n) refl i))
      (subst (λ m. Stands step l t m (turn_after step l n (line_after step l t n))) (add-one n) z)
  further n h (ended k g i j e) = subst (Stands step l t (suc n)) (sym (after-ended step l t n k i)) (ended k (omega arith) i j e)

  pub stands : (n : ℕ) → n ≤ count → Stands step l t n (line_after step l t n)
  unfolding line_after
  stands zero h = ran refl ran_none
  stands (suc n) h = further n (omega arith) (stands n (omega arith))
