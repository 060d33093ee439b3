-- The loop over the frames of a line, over any step: what it keeps, and how it ends. Assumes nothing.
use mathlib.Core.Path.{◌≡◌, refl, sym, ◌∙◌, ap}
use mathlib.Core.List.{List, []}
use mathlib.Core.Option.{Option, none, some}
use Prim.Native.Nat.{ℕ, suc, ◌+◌, ◌*◌, ◌≤◌, ◌<◌}
use native.Mathlib.Numerals.{add-one}
use native.Mathlib.Omega.{arith}
use lib.IntN.{ℤ}
use lib.Ieee.{Float}
use lib.ListN.{length}
use Rattle.std.specs.Prelude.{Err}
use Rattle.rules.specs.Layout.{frame_size, spectrum_length, side_length}
use Rattle.rules.specs.Refusals.{Outcome, delivered, refused}
use Rattle.rules.specs.Stage.{stage_lent}
use Rattle.rules.specs.declared.Layout.{Layout}
use Rattle.rules.proofs.Cuts.{row_end}
use Rattle.rules_line.specs.Line.{line_outcome_by, line_index, LineLent, LineLeft, left_with, line_room, Step, step_at, turn_outcome}
use Rattle.rules_line.specs.Line.{turn_index, line_turn, line_after}
use Rattle.rules_line.specs.Asked.{Batch, LineHasRoom, OnTheWay}
use Rattle.rules_line.specs.declared.LineRefusal.{LineRefusal}
use Rattle.rules_line.specs.declared.LineRefusal.TheVariants.{BadLayout, BadBatch, ShortBuffer, Frame}
use Rattle.rules_line.specs.declared.Tally.{Tally}
use Rattle.rules_line.proofs.Turns.{after_next, after_stays}
use Rattle.line_turns.specs.Turn.{Turn}
use Rattle.line_turns.specs.Bounded.{BoundedStep}
use Rattle.line_turns.proofs.Counts.{after_counted, on_the_way}

-- ---- an answer that is no delivery

-- it has a number, or it names a frame
pub data Stopping : Outcome → Option ℕ → Type 0 where
  by_number : (number beside : ℕ) (i : Option ℕ) → Stopping (refused number beside) i
  by_frame : (o : Outcome) (k : ℕ) → Stopping o (some k)

pub line_stopping : {R : Type 0} (refusal : R → Outcome) (r : LineRefusal R) → Stopping (line_outcome_by refusal (Err r)) (line_index {R = R} (Err r))
unfolding line_outcome_by line_index
line_stopping refusal BadLayout = by_number 1 0 none
line_stopping refusal BadBatch = by_number 18 0 none
line_stopping refusal ShortBuffer = by_number 2 0 none
line_stopping refusal (Frame k r) = by_frame _ k

-- that of frame k then is its refusal
stopped : (e : Outcome) (i : Option ℕ) (o : Outcome) (k : ℕ) → Stopping e i → e ≡ turn_outcome o → i ≡ turn_index k o → i ≡ some k
unfolding turn_outcome turn_index
stopped e i (refused n b) k s p q = q
stopped e i (delivered ns) k (by_number n b j) p q = let z : ◌≡◌ {A = ℕ} 0 1 = cc p in absurd (omega arith)
stopped e i (delivered ns) k (by_frame o j) p q = let z : ◌≡◌ {A = ℕ} 0 1 = cc q in absurd (omega arith)

-- ---- the loop

-- what it keeps after k turns: every frame so far was delivered, and each buffer is as long as it was
pub record Going (step : Step) (l : Layout) (t : LineLent) (k : ℕ) (sum : Tally) (xs : List Float) (is : List ℕ) (sc : List Float) (co : List ℤ)
    (fa si fr an : List ℕ) : Type 0 where
  pub so_far : line_after step l t k ≡ left_with (delivered []) none sum xs is sc co fa si fr an
  pub spectra : length xs ≡ length t.spectra
  pub intensities : length is ≡ length t.intensities
  pub scaled : length sc ≡ length t.scaled
  pub codes : length co ≡ length t.codes
  pub factors : length fa ≡ length t.factors
  pub side : length si ≡ length t.side
  pub frames : length fr ≡ length t.frames
  pub answers : length an ≡ length t.answers

pub going_none : (step : Step) (l : Layout) (t : LineLent) → Going step l t 0 t.tally t.spectra t.intensities t.scaled t.codes t.factors
    t.side t.frames t.answers
unfolding line_after
going_none step l t = record {
  so_far = refl;
  spectra = refl;
  intensities = refl;
  scaled = refl;
  codes = refl;
  factors = refl;
  side = refl;
  frames = refl;
  answers = refl;
}

module _ (step : Step) (l : Layout) (t : LineLent) (k : ℕ) (sum : Tally) (xs : List Float) (is : List ℕ) (sc : List Float) (co : List ℤ)
    (fa si fr an : List ℕ) (g : Going step l t k sum xs is sc co fa si fr an) where
  -- frame k's parts and the places of its answers are there, and the counts so far fit
  module _ (count : ℕ) (b : Batch count t.tally) (room : LineHasRoom l count (line_room t) (length t.answers)) (h : k < count) where
    pub turn-there : Turn l k (length xs) (length is) (length fr)
    turn-there = record {
      below = omega (arith, b.few);
      spectra = omega (arith, row_end (spectrum_length l) count k h, room.spectra, g.spectra);
      intensities = omega (arith, row_end (side_length l) count k h, room.intensities, g.intensities);
      frames = omega (arith, row_end (frame_size l) count k h, room.frames, g.frames);
    }

    pub answers-there : k * 4 + 4 ≤ length an
    answers-there = omega (arith, room.answers, g.answers)

    pub going_counts : BoundedStep step → OnTheWay sum
    going_counts bounded = on_the_way count k t.tally sum b (omega arith) (rw g.so_far at (after_counted step bounded l t k))

  -- the turn that was taken
  module _ (end : Outcome) (index : Option ℕ) (next : Tally) (xs' : List Float) (is' : List ℕ) (sc' : List Float) (co' : List ℤ) (fa' si' fr' an' : List ℕ)
      (e : left_with end index next xs' is' sc' co' fa' si' fr' an' ≡ line_turn k (step_at step l k (stage_lent xs is sc co fa si fr)) an sum) where
    went : line_after step l t (suc k) ≡ left_with end index next xs' is' sc' co' fa' si' fr' an'
    went = after_next step l t k (left_with (delivered []) none sum xs is sc co fa si fr an) g.so_far refl ∙ sym e

    pub going_more : end ≡ delivered [] → index ≡ none → length xs' ≡ length xs → length is' ≡ length is → length sc' ≡ length sc → length co' ≡ length co
        → length fa' ≡ length fa → length si' ≡ length si → length fr' ≡ length fr → length an' ≡ length an
        → Going step l t (k + 1) next xs' is' sc' co' fa' si' fr' an'
    going_more d m x y a b c f h i = record {
      so_far = ap (line_after step l t) (add-one k) ∙ went ∙ rw (d, m);
      spectra = x ∙ g.spectra;
      intensities = y ∙ g.intensities;
      scaled = a ∙ g.scaled;
      codes = b ∙ g.codes;
      factors = c ∙ g.factors;
      side = f ∙ g.side;
      frames = h ∙ g.frames;
      answers = i ∙ g.answers;
    }

    pub going_stop : (count : ℕ) → k < count → Stopping end index → left_with end index next xs' is' sc' co' fa' si' fr' an' ≡ line_after step l t count
    unfolding line_turn
    going_stop count h d =
        let x = step_at step l k (stage_lent xs is sc co fa si fr) in
        let i : (line_after step l t (suc k)).index ≡ some k = ap (λ (y : LineLeft). y.index) went
        ∙ stopped end index x.outcome k d (ap (λ (y : LineLeft). y.outcome) e) (ap (λ (y : LineLeft). y.index) e) in
        sym went ∙ sym (after_stays step l t (suc k) k i count (omega arith))

  -- every frame was delivered
  pub going_all : (count : ℕ) → k ≡ count → left_with (delivered []) none sum xs is sc co fa si fr an ≡ line_after step l t count
  going_all count e = sym g.so_far ∙ ap (line_after step l t) e
