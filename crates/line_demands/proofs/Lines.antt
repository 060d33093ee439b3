-- Request A5's sentences about a line, as theorems about `encode_line`: what each frame gives, where a line stops, what its buffers and the tally then hold.
-- Each is the sentence over any step (Over.antt, OverExactly.antt), of the stage. Assumes nothing.
use mathlib.Core.Path.{◌≡◌, refl, sym, ◌∙◌, ap, ap₂}
use mathlib.Core.List.{List, [], ◌∷◌}
use mathlib.Core.Logic.{◌↔◌}
use mathlib.Core.Bool.{true, false}
use mathlib.Core.Option.{Option, none, some}
use Prim.Native.Nat.{ℕ, zero, suc, ◌+◌, ◌*◌, ◌≤◌, ◌<◌}
use native.Mathlib.Omega.{arith}
use types.Run.{OneOf}
use lib.IntN.{ℤ}
use lib.Ieee.{Float}
use lib.ListN.{length, get_or, take}
use Rattle.rules.specs.Layout.{legal_layout, frame_size, spectrum_length, side_length, part}
use Rattle.rules.specs.Lent.{overwrite, no_floats, no_codes, no_factors, no_side}
use Rattle.rules.specs.Refusals.{Outcome, delivered, refused, stage_outcome}
use Rattle.rules.specs.Stage.{StageLent, encode_frame}
use Rattle.rules.specs.Reader.{ReaderLent, reader_has_room, read_frame}
use Rattle.rules.specs.declared.Mode.TheVariants.{Held}
use Rattle.rules.specs.declared.Layout.{Layout}
use Rattle.rules.proofs.Answers.{Numbered}
use Rattle.rules_demands.proofs.Calls.{handed}
use Rattle.rules_demands.proofs.Outcomes.{stage_numbers_differ}
use Rattle.rules_stereo.specs.Stereo.{StereoLeft}
use Rattle.rules_line.specs.Line.{line_outcome, line_index, LineLent, LineLeft, line_room, line_gate, stage_step, step_at, line_turn, line_kept, turn_lent, onward}
use Rattle.rules_line.specs.Line.{line_after, line_behind_gate, line_over, encode_line}
use Rattle.rules_line.specs.Asked.{Batch}
use Rattle.std.specs.Prelude.{Result, Err, ⊤}
use Rattle.rules.specs.declared.StageRefusal.{StageRefusal}
use Rattle.rules_line.specs.declared.LineRefusal.{LineRefusal}
use Rattle.line_demands.proofs.Once.{answers_differ_by, once_by}
use Rattle.rules_line.proofs.Steps.{stage_spectra, stage_intensities}
use Rattle.line_demands.proofs.Singles.{stage_late, stage_step_lem}
use Rattle.line_demands.proofs.Standing.{single, answers_at, tally_over}
use Rattle.line_demands.proofs.Over.{Admits, tried_of, done_over, frame_with, WorkRoom, Works, Whole, Stopped, last_turn, over-frame, over-signal}
use Rattle.line_demands.proofs.Over.{over_held_read, over-tally, over_delivers, over_stops, over_work, over_work_refused, over_none, over_keeps}
use Rattle.line_demands.proofs.OverExactly.{BatchOver, AllRoom, AllDeliver, over-numbers, over_one_exactly, over_eighteen_exactly, over_two_exactly}
use Rattle.line_demands.proofs.OverExactly.{over_stops_at}

-- ---- what the statements name

-- how many of count frames were delivered
abbrev pub frames_done : (l : Layout) (count : ℕ) (t : LineLent) → ℕ
frames_done l count t = done_over stage_step l count t

-- frame k was refused with 3, 4, 5 or 7: 3 and 4 keep, 5 and 7 clear
abbrev pub LineStopped : (l : Layout) (count : ℕ) (t : LineLent) (k : ℕ) → Type 0
LineStopped l count t k = Stopped stage_step stage_late (λ n. n ≤ 4) (λ n. 5 ≤ n) l count t k

-- ---- behind the gate

module _ (l : Layout) (count : ℕ) (t : LineLent) (a : Admits l count t) where
  -- A delivered frame's bytes and answers are those of the single call on that frame, with any work buffers that are long enough.
  pub line_frame : (k : ℕ) → k < frames_done l count t → (scaled : List Float) (codes : List ℤ) (factors side : List ℕ) → WorkRoom l scaled codes factors side
      → ((encode_frame l (frame_with l t k scaled codes factors side)).outcome ≡ delivered (part 4 (encode_line l count t).answers k))
      × ((encode_frame l (frame_with l t k scaled codes factors side)).frame ≡ part (frame_size l) (encode_line l count t).frames k)
  unfolding stage_step
  line_frame = over-frame stage_step stage_late (λ n. n ≤ 4) (λ n. 5 ≤ n) stage_step_lem l count t a

  -- In held mode the strict reader, lent a delivered frame's bytes, hands back what the single call on that frame leaves, with its level, boundary and bits.
  pub line_held_read : l.mode ≡ Held → (k : ℕ) → k < frames_done l count t
      → (u : ReaderLent) → reader_has_room l u ≡ true → take (frame_size l) u.frame ≡ part (frame_size l) (encode_line l count t).frames k
      → let said : List ℕ = part 4 (encode_line l count t).answers k in
      let x = single stage_step l t k in
      read_frame l u ≡ handed l u (get_or said 0 0 ∷ get_or said 1 0 ∷ get_or said 3 0 ∷ []) x.factors x.side x.codes
  line_held_read = over_held_read stage_step stage_late (λ n. n ≤ 4) (λ n. 5 ≤ n) stage_step_lem l count t a

  -- The tally gains the number of delivered frames, the sum of their bits and the sum of their pairs.
  pub line_tally : (encode_line l count t).tally ≡ tally_over stage_step l t (frames_done l count t)
  line_tally = over-tally stage_step stage_late (λ n. n ≤ 4) (λ n. 5 ≤ n) stage_step_lem l count t a

  -- Where no frame is named the line was delivered, and the rest of every buffer with a part for each frame is as lent.
  pub line_delivers : (encode_line l count t).index ≡ none → Whole stage_step l count t
  line_delivers = over_delivers stage_step stage_late (λ n. n ≤ 4) (λ n. 5 ≤ n) stage_step_lem l count t a

  -- Where a frame is named, the single call refused it, with that number and the number beside it; the frames before it stand (line_frame), the later
  -- areas and all answers from there on are as lent.
  pub line_stops : (k : ℕ) → (encode_line l count t).index ≡ some k → LineStopped l count t k
  line_stops = over_stops stage_step stage_late (λ n. n ≤ 4) (λ n. 5 ≤ n) stage_step_lem l count t a

  -- The work buffers are those of the last frame tried.
  pub line_work : (k : ℕ) → tried_of (encode_line l count t).index count ≡ k + 1
      → let x = last_turn stage_step stage_late (λ n. n ≤ 4) (λ n. 5 ≤ n) stage_step_lem l count t a k in Works (encode_line l count t) x.scaled x.codes
      x.factors x.side
  line_work = over_work stage_step stage_late (λ n. n ≤ 4) (λ n. 5 ≤ n) stage_step_lem l count t a

  -- After 3 and 4 at frame k they are as after frame k - 1, after 5 and 7 they are zero over one frame's length.
  pub line_work_refused : (k number beside : ℕ) → (encode_line l count t).index ≡ some k → (encode_line l count t).outcome ≡ refused number beside
      → let x = encode_line l k t in
      (number ≤ 4 → Works (encode_line l count t) x.scaled x.codes x.factors x.side)
      × (5 ≤ number → Works (encode_line l count t) (overwrite (no_floats l) x.scaled) (overwrite (no_codes l) x.codes)
      (overwrite (no_factors l) x.factors) (overwrite (no_side l) x.side))
  line_work_refused = over_work_refused stage_step stage_late (λ n. n ≤ 4) (λ n. 5 ≤ n) stage_step_lem l count t a

-- ---- calls that change nothing

-- No frames: nothing changes, and the call succeeds.
pub line_none : (l : Layout) (t : LineLent) → Admits l 0 t → encode_line l 0 t ≡ line_kept t (delivered [])
line_none = over_none stage_step

-- 1, 18 and 2 change nothing, the tally included; beside them stands 0, and no frame is named.
pub line_keeps : (l : Layout) (count : ℕ) (t : LineLent) (number beside : ℕ) → OneOf (1 ∷ 18 ∷ 2 ∷ []) number
    → (encode_line l count t).outcome ≡ refused number beside → encode_line l count t ≡ line_kept t (refused number 0)
line_keeps = over_keeps stage_step stage_late (λ n. n ≤ 4) (λ n. 5 ≤ n) stage_step_lem

-- Spectra and intensities are as lent.
after_signal : (l : Layout) (t : LineLent) (k : ℕ) → ((line_after stage_step l t k).spectra ≡ t.spectra) × ((line_after stage_step l t k).intensities
    ≡ t.intensities)
unfolding line_after line_turn onward
after_signal l t zero = (refl, refl)
after_signal l t (suc k) =
    let x = line_after stage_step l t k in
    let (p, q) = after_signal l t k in
    on x.index x (line_turn k (step_at stage_step l k (turn_lent x)) x.answers x.tally) (p, q)
    (stage_spectra l k (turn_lent x) ∙ p, stage_intensities l k (turn_lent x) ∙ q)
  where
    on : (i : Option ℕ) (x y : LineLeft) → (x.spectra ≡ t.spectra) × (x.intensities ≡ t.intensities)
        → (y.spectra ≡ t.spectra) × (y.intensities ≡ t.intensities)
        → ((onward i x y).spectra ≡ t.spectra) × ((onward i x y).intensities ≡ t.intensities)
    on none x y h g = g
    on (some j) x y h g = h

pub line_signal : (l : Layout) (count : ℕ) (t : LineLent) → ((encode_line l count t).spectra ≡ t.spectra) × ((encode_line l count t).intensities ≡ t.intensities)
unfolding line_over line_behind_gate
line_signal l count t = by_gate (line_gate l count (line_room t) (length t.answers) t.tally)
  where
    by_gate : (g : Option Outcome) → let x = line_behind_gate g t (line_after stage_step l t count) in (x.spectra ≡ t.spectra) × (x.intensities ≡ t.intensities)
    by_gate none = after_signal l t count
    by_gate (some o) = (refl, refl)

-- ---- the refusals, exactly when

module _ (l : Layout) (count : ℕ) (t : LineLent) where
  -- Where a line refuses, the number is one of seven.
  pub line_numbers : Numbered (1 ∷ 18 ∷ 2 ∷ 3 ∷ 4 ∷ 5 ∷ 7 ∷ []) (encode_line l count t).outcome
  line_numbers = over-numbers stage_step stage_late (λ n. n ≤ 4) (λ n. 5 ≤ n) stage_step_lem l count t

  -- Refusal 1: the layout is outside the limits.
  pub line_one_exactly : (p : ℕ) → ((encode_line l count t).outcome ≡ refused 1 p) ↔ ((legal_layout l ≡ false) × (p ≡ 0))
  line_one_exactly = over_one_exactly stage_step stage_late (λ n. n ≤ 4) (λ n. 5 ≤ n) stage_step_lem l count t

  -- Refusal 18, between 1 and 2: a batch size above 65,535, or a tally count above 2^63, of a layout within the limits.
  pub eighteen_exactly : (p : ℕ) → ((encode_line l count t).outcome ≡ refused 18 p) ↔ ((legal_layout l ≡ true) × BatchOver count t.tally × (p ≡ 0))
  eighteen_exactly = over_eighteen_exactly stage_step stage_late (λ n. n ≤ 4) (λ n. 5 ≤ n) stage_step_lem l count t

  -- Refusal 2: a lent buffer is too short, of a layout, a batch and a tally within the limits.
  pub line_two_exactly : (p : ℕ)
      → ((encode_line l count t).outcome ≡ refused 2 p) ↔ ((legal_layout l ≡ true) × Batch count t.tally × (AllRoom l count t → ⊥) × (p ≡ 0))
  line_two_exactly = over_two_exactly stage_step stage_late (λ n. n ≤ 4) (λ n. 5 ≤ n) stage_step_lem l count t

  -- From 3 on: a line is refused at frame k exactly where 1, 18 and 2 are passed, the single calls on the frames before it deliver and the single call on
  -- frame k is refused; the number and the number beside it are the single call's.
  pub line_stops_at : (k n b : ℕ) → (((encode_line l count t).outcome ≡ refused n b) × ((encode_line l count t).index ≡ some k))
      ↔ (Admits l count t × (k < count) × AllDeliver stage_step l t k × ((single stage_step l t k).outcome ≡ refused n b))
  line_stops_at = over_stops_at stage_step stage_late (λ n. n ≤ 4) (λ n. 5 ≤ n) stage_step_lem l count t

-- ---- one outcome

refusals_differ : (a b : StageRefusal) → stage_outcome (Err a) ≡ stage_outcome (Err b) → a ≡ b
refusals_differ a b e = cc (stage_numbers_differ (Err a) (Err b) e)

-- different answers have different numbers or name different frames
pub line_answers_differ : (a b : Result ⊤ (LineRefusal StageRefusal)) → line_outcome a ≡ line_outcome b → line_index a ≡ line_index b → a ≡ b
line_answers_differ = answers_differ_by (λ r. stage_outcome (Err r)) refusals_differ

-- Two outcomes that the contract allows coincide: what is left is one, and so is the answer.
pub line_once : (l : Layout) (count : ℕ) (t : LineLent) (x y : LineLeft) (a b : Result ⊤ (LineRefusal StageRefusal)) → x ≡ encode_line l count t
    → y ≡ encode_line l count t
    → line_outcome a ≡ x.outcome → line_index a ≡ x.index → line_outcome b ≡ y.outcome → line_index b ≡ y.index → (x ≡ y) × (a ≡ b)
line_once l count t = once_by (λ r. stage_outcome (Err r)) refusals_differ (encode_line l count t)
