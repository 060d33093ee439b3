-- The same sentences about a line from unmixed spectra, as theorems about `encode_stereo_line`: those over any step (Over.antt, OverExactly.antt), of the stereo
-- stage. Spectra and intensities of delivered frames are left as mixed, the refused frame's as its single call leaves them, later ones as lent. Assumes
-- nothing.
use mathlib.Core.Path.{◌≡◌, refl, sym, ◌∙◌, ap, ap₂}
use mathlib.Core.List.{List, [], ◌∷◌}
use mathlib.Core.Logic.{◌↔◌, ◌⊎◌}
use mathlib.Core.Bool.{true, false}
use mathlib.Core.Option.{Option, none, some}
use Prim.Native.Nat.{ℕ, zero, suc, ◌+◌, ◌*◌, ◌≤◌, ◌<◌}
use native.Mathlib.Omega.{arith}
use types.Run.{OneOf}
use lib.IntN.{ℤ}
use lib.Ieee.{Float}
use lib.ListN.{length, get_or, take}
use Rattle.rules.specs.Layout.{legal_layout, frame_size, spectrum_length, side_length, part}
use Rattle.rules.specs.Lent.{overwrite, no_floats, no_codes, no_factors, no_side}
use Rattle.rules.specs.Refusals.{Outcome, delivered, refused}
use Rattle.rules.specs.Stage.{StageLent}
use Rattle.rules.specs.Reader.{ReaderLent, reader_has_room, read_frame}
use Rattle.rules.specs.declared.Mode.TheVariants.{Held}
use Rattle.rules.specs.declared.Layout.{Layout}
use Rattle.rules.proofs.Answers.{Numbered}
use Rattle.rules_demands.proofs.Calls.{handed}
use Rattle.rules_stereo.specs.Stereo.{stereo_outcome, encode_stereo_frame}
use Rattle.stereo_demands.proofs.StereoAnswers.{stereo_numbers_differ}
use Rattle.rules_line.specs.Line.{stereo_line_outcome, stereo_line_index, LineLent, LineLeft, line_kept, encode_stereo_line}
use Rattle.rules_line.specs.Asked.{Batch}
use Rattle.std.specs.Prelude.{Result, Err, ⊤}
use Rattle.rules_stereo.specs.declared.StereoRefusal.{StereoRefusal}
use Rattle.rules_line.specs.declared.LineRefusal.{LineRefusal}
use Rattle.line_demands.proofs.Once.{answers_differ_by, once_by}
use Rattle.line_demands.proofs.StereoSingles.{stereo_late, stereo-step}
use Rattle.line_demands.proofs.Standing.{single, answers_at, tally_over}
use Rattle.line_demands.proofs.Over.{Admits, tried_of, done_over, frame_with, WorkRoom, Works, Whole, Stopped, last_turn, over-frame, over-signal}
use Rattle.line_demands.proofs.Over.{over_held_read, over-tally, over_delivers, over_stops, over_work, over_work_refused, over_none, over_keeps}
use Rattle.line_demands.proofs.OverExactly.{BatchOver, AllRoom, AllDeliver, over-numbers, over_one_exactly, over_eighteen_exactly, over_two_exactly}
use Rattle.line_demands.proofs.OverExactly.{over_stops_at}

-- ---- what the statements name

-- how many of count frames were delivered
abbrev pub stereo_frames_done : (l : Layout) (count : ℕ) (t : LineLent) → ℕ
stereo_frames_done l count t = done_over encode_stereo_frame l count t

-- frame k was refused with 3, 4, 17, 5 or 7: 3, 4 and 17 keep, 5 and 7 clear
abbrev pub StereoLineStopped : (l : Layout) (count : ℕ) (t : LineLent) (k : ℕ) → Type 0
StereoLineStopped l count t k = Stopped encode_stereo_frame stereo_late (λ n. (n ≤ 4) ⊎ (n ≡ 17)) (λ n. (5 ≤ n) × (n ≤ 7)) l count t k

-- ---- behind the gate

module _ (l : Layout) (count : ℕ) (t : LineLent) (a : Admits l count t) where
  -- A delivered frame's bytes and answers are those of the single call on that frame, with any work buffers that are long enough.
  pub stereo_line_frame : (k : ℕ) → k < stereo_frames_done l count t → (scaled : List Float) (codes : List ℤ) (factors side : List ℕ)
      → WorkRoom l scaled codes factors side
      → ((encode_stereo_frame l (frame_with l t k scaled codes factors side)).outcome ≡ delivered (part 4 (encode_stereo_line l count t).answers k))
      × ((encode_stereo_frame l (frame_with l t k scaled codes factors side)).frame ≡ part (frame_size l) (encode_stereo_line l count t).frames k)
  stereo_line_frame = over-frame encode_stereo_frame stereo_late (λ n. (n ≤ 4) ⊎ (n ≡ 17)) (λ n. (5 ≤ n) × (n ≤ 7)) stereo-step l count t a

  -- Its spectra and intensities are left as mixed: as the single call on that frame leaves them.
  pub stereo_line_signal : (k : ℕ) → k < stereo_frames_done l count t
      → (part (spectrum_length l) (encode_stereo_line l count t).spectra k ≡ (single encode_stereo_frame l t k).spectra)
      × (part (side_length l) (encode_stereo_line l count t).intensities k ≡ (single encode_stereo_frame l t k).intensities)
  stereo_line_signal = over-signal encode_stereo_frame stereo_late (λ n. (n ≤ 4) ⊎ (n ≡ 17)) (λ n. (5 ≤ n) × (n ≤ 7)) stereo-step l count t a

  -- In held mode the strict reader, lent a delivered frame's bytes, hands back what the single call on that frame leaves, with its level, boundary and bits.
  pub stereo_line_held_read : l.mode ≡ Held → (k : ℕ) → k < stereo_frames_done l count t
      → (u : ReaderLent) → reader_has_room l u ≡ true → take (frame_size l) u.frame ≡ part (frame_size l) (encode_stereo_line l count t).frames k
      → let said : List ℕ = part 4 (encode_stereo_line l count t).answers k in
      let x = single encode_stereo_frame l t k in
      read_frame l u ≡ handed l u (get_or said 0 0 ∷ get_or said 1 0 ∷ get_or said 3 0 ∷ []) x.factors x.side x.codes
  stereo_line_held_read = over_held_read encode_stereo_frame stereo_late (λ n. (n ≤ 4) ⊎ (n ≡ 17)) (λ n. (5 ≤ n) × (n ≤ 7)) stereo-step l count t a

  -- The tally gains the number of delivered frames, the sum of their bits and the sum of their pairs.
  pub stereo_line_tally : (encode_stereo_line l count t).tally ≡ tally_over encode_stereo_frame l t (stereo_frames_done l count t)
  stereo_line_tally = over-tally encode_stereo_frame stereo_late (λ n. (n ≤ 4) ⊎ (n ≡ 17)) (λ n. (5 ≤ n) × (n ≤ 7)) stereo-step l count t a

  -- Where no frame is named the line was delivered, and the rest of every buffer with a part for each frame is as lent.
  pub stereo_line_delivers : (encode_stereo_line l count t).index ≡ none → Whole encode_stereo_frame l count t
  stereo_line_delivers = over_delivers encode_stereo_frame stereo_late (λ n. (n ≤ 4) ⊎ (n ≡ 17)) (λ n. (5 ≤ n) × (n ≤ 7)) stereo-step l count t a

  -- Where a frame is named, the single call refused it, with that number and the number beside it; the frames before it stand (stereo-line-frame), the later
  -- areas and all answers from there on are as lent.
  pub stereo_line_stops : (k : ℕ) → (encode_stereo_line l count t).index ≡ some k → StereoLineStopped l count t k
  stereo_line_stops = over_stops encode_stereo_frame stereo_late (λ n. (n ≤ 4) ⊎ (n ≡ 17)) (λ n. (5 ≤ n) × (n ≤ 7)) stereo-step l count t a

  -- The work buffers are those of the last frame tried.
  pub stereo_line_work : (k : ℕ) → tried_of (encode_stereo_line l count t).index count ≡ k + 1
      → let x = last_turn encode_stereo_frame stereo_late (λ n. (n ≤ 4) ⊎ (n
      ≡ 17)) (λ n. (5 ≤ n) × (n ≤ 7)) stereo-step l count t a k in Works (encode_stereo_line l count t) x.scaled x.codes x.factors x.side
  stereo_line_work = over_work encode_stereo_frame stereo_late (λ n. (n ≤ 4) ⊎ (n ≡ 17)) (λ n. (5 ≤ n) × (n ≤ 7)) stereo-step l count t a

  -- After 3, 4 and 17 at frame k they are as after frame k - 1, after 5 and 7 they are zero over one frame's length.
  pub stereo_line_work_refused : (k number beside : ℕ) → (encode_stereo_line l count t).index ≡ some k
      → (encode_stereo_line l count t).outcome ≡ refused number beside
      → let x = encode_stereo_line l k t in
      ((number ≤ 4) ⊎ (number ≡ 17) → Works (encode_stereo_line l count t) x.scaled x.codes x.factors x.side)
      × ((5 ≤ number) × (number ≤ 7) → Works (encode_stereo_line l count t) (overwrite (no_floats l) x.scaled) (overwrite (no_codes l) x.codes)
      (overwrite (no_factors l) x.factors) (overwrite (no_side l) x.side))
  stereo_line_work_refused = over_work_refused encode_stereo_frame stereo_late (λ n. (n ≤ 4) ⊎ (n ≡ 17)) (λ n. (5 ≤ n) × (n ≤ 7)) stereo-step l count t a

-- ---- calls that change nothing

-- No frames: nothing changes, and the call succeeds.
pub stereo_line_none : (l : Layout) (t : LineLent) → Admits l 0 t → encode_stereo_line l 0 t ≡ line_kept t (delivered [])
stereo_line_none = over_none encode_stereo_frame

-- 1, 18 and 2 change nothing, the tally included; beside them stands 0, and no frame is named.
pub stereo_line_keeps : (l : Layout) (count : ℕ) (t : LineLent) (number beside : ℕ) → OneOf (1 ∷ 18 ∷ 2 ∷ []) number
    → (encode_stereo_line l count t).outcome ≡ refused number beside → encode_stereo_line l count t ≡ line_kept t (refused number 0)
stereo_line_keeps = over_keeps encode_stereo_frame stereo_late (λ n. (n ≤ 4) ⊎ (n ≡ 17)) (λ n. (5 ≤ n) × (n ≤ 7)) stereo-step

-- ---- the refusals, exactly when

module _ (l : Layout) (count : ℕ) (t : LineLent) where
  -- Where a line refuses, the number is one of eight.
  pub stereo_line_numbers : Numbered (1 ∷ 18 ∷ 2 ∷ 3 ∷ 4 ∷ 17 ∷ 5 ∷ 7 ∷ []) (encode_stereo_line l count t).outcome
  stereo_line_numbers = over-numbers encode_stereo_frame stereo_late (λ n. (n ≤ 4) ⊎ (n ≡ 17)) (λ n. (5 ≤ n) × (n ≤ 7)) stereo-step l count t

  -- Refusal 1: the layout is outside the limits.
  pub stereo_line_one_exactly : (p : ℕ) → ((encode_stereo_line l count t).outcome ≡ refused 1 p) ↔ ((legal_layout l ≡ false) × (p ≡ 0))
  stereo_line_one_exactly = over_one_exactly encode_stereo_frame stereo_late (λ n. (n ≤ 4) ⊎ (n ≡ 17)) (λ n. (5 ≤ n) × (n ≤ 7)) stereo-step l count t

  -- Refusal 18, between 1 and 2: a batch size above 65,535, or a tally count above 2^63, of a layout within the limits.
  pub stereo_line_eighteen_exactly : (p : ℕ) → ((encode_stereo_line l count t).outcome ≡ refused 18 p) ↔ ((legal_layout l
      ≡ true) × BatchOver count t.tally × (p ≡ 0))
  stereo_line_eighteen_exactly = over_eighteen_exactly encode_stereo_frame stereo_late (λ n. (n ≤ 4) ⊎ (n ≡ 17)) (λ n. (5 ≤ n) × (n ≤ 7)) stereo-step l count t

  -- Refusal 2: a lent buffer is too short, of a layout, a batch and a tally within the limits.
  pub stereo_line_two_exactly : (p : ℕ)
      → ((encode_stereo_line l count t).outcome ≡ refused 2 p) ↔ ((legal_layout l ≡ true) × Batch count t.tally × (AllRoom l count t → ⊥) × (p ≡ 0))
  stereo_line_two_exactly = over_two_exactly encode_stereo_frame stereo_late (λ n. (n ≤ 4) ⊎ (n ≡ 17)) (λ n. (5 ≤ n) × (n ≤ 7)) stereo-step l count t

  -- From 3 on: a line is refused at frame k exactly where 1, 18 and 2 are passed, the single calls on the frames before it deliver and the single call on
  -- frame k is refused; the number and the number beside it are the single call's.
  pub stereo_line_stops_at : (k n b : ℕ) → (((encode_stereo_line l count t).outcome ≡ refused n b) × ((encode_stereo_line l count t).index ≡ some k))
      ↔ (Admits l count t × (k < count) × AllDeliver encode_stereo_frame l t k × ((single encode_stereo_frame l t k).outcome ≡ refused n b))
  stereo_line_stops_at = over_stops_at encode_stereo_frame stereo_late (λ n. (n ≤ 4) ⊎ (n ≡ 17)) (λ n. (5 ≤ n) × (n ≤ 7)) stereo-step l count t

-- ---- one outcome

refusals_differ : (a b : StereoRefusal) → stereo_outcome (Err a) ≡ stereo_outcome (Err b) → a ≡ b
refusals_differ a b e = cc (stereo_numbers_differ (Err a) (Err b) e)

-- different answers have different numbers or name different frames
pub stereo_line_answers_differ : (a b : Result ⊤ (LineRefusal StereoRefusal)) → stereo_line_outcome a ≡ stereo_line_outcome b
    → stereo_line_index a ≡ stereo_line_index b → a ≡ b
stereo_line_answers_differ = answers_differ_by (λ r. stereo_outcome (Err r)) refusals_differ

-- Two outcomes that the contract allows coincide: what is left is one, and so is the answer.
pub stereo_line_once : (l : Layout) (count : ℕ) (t : LineLent) (x y : LineLeft) (a b : Result ⊤ (LineRefusal StereoRefusal)) → x ≡ encode_stereo_line l count t
    → y ≡ encode_stereo_line l count t
    → stereo_line_outcome a ≡ x.outcome → stereo_line_index a ≡ x.index → stereo_line_outcome b ≡ y.outcome → stereo_line_index b ≡ y.index → (x ≡ y) × (a ≡ b)
stereo_line_once l count t = once_by (λ r. stereo_outcome (Err r)) refusals_differ (encode_stereo_line l count t)
