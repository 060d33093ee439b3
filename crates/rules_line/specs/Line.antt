-- Request A5, **a whole line in one call**: what a line of frames answers and leaves in every lent buffer, for every call, refused ones too.
-- A batch is a map of a single call: each frame in its turn is that call on its own parts, until one is refused. The work buffers are used again.
-- The call is a step, any one; `encode_line` is the line over the stage, `encode_stereo_line` that over the stereo stage.
use Rattle.std.specs.Prelude.{List, [], ◌++◌, Bool, cond, not, ◌&&◌, ℕ, zero, suc, ◌+◌, ◌*◌, ◌^◌, leb, ℤ, Float, length, get_or, take, drop, Result, Ok, Err, ⊤}
use Rattle.std.proofs.Math.Option.{Option, none, some}
use Rattle.rules.specs.Layout.{legal_layout, frame_size, spectrum_length, factor_length, side_length, room_of, part}
use Rattle.rules.specs.Lent.{overwrite}
use Rattle.rules.specs.Refusals.{Outcome, delivered, refused, stage_outcome}
use Rattle.rules.specs.Stage.{StageLent, stage_lent, stage_room_of, encode_frame}
use Rattle.rules.specs.declared.Layout.{Layout}
use Rattle.rules.specs.declared.StageRoom.{StageRoom}
use Rattle.rules_stereo.specs.Stereo.{stereo_outcome, StereoLeft, with_signal, lent_signal, encode_stereo_frame}
use Rattle.rules.specs.declared.StageRefusal.{StageRefusal}
use Rattle.rules_stereo.specs.declared.StereoRefusal.{StereoRefusal}
use Rattle.rules_line.specs.declared.LineRefusal.{LineRefusal}
use Rattle.rules_line.specs.declared.LineRefusal.TheVariants.{BadLayout, BadBatch, ShortBuffer, Frame}
use Rattle.rules_line.specs.declared.Tally.{Tally}

-- THE ANSWER

-- 1, 18, 2 in this order, then the single call's; a line that is delivered answers no numbers, each frame's stand in `answers`
unfoldable pub line_outcome_by : {R : Type 0} (refusal : R → Outcome) (answer : Result ⊤ (LineRefusal R)) → Outcome
line_outcome_by refusal (Ok done) = delivered []
line_outcome_by refusal (Err BadLayout) = refused 1 0
line_outcome_by refusal (Err BadBatch) = refused 18 0
line_outcome_by refusal (Err ShortBuffer) = refused 2 0
line_outcome_by refusal (Err (Frame k r)) = refusal r

-- the index of the frame that was refused
unfoldable pub line_index : {R : Type 0} (answer : Result ⊤ (LineRefusal R)) → Option ℕ
line_index (Ok done) = none
line_index (Err BadLayout) = none
line_index (Err BadBatch) = none
line_index (Err ShortBuffer) = none
line_index (Err (Frame k r)) = some k

-- over the stage
abbrev pub line_outcome : (answer : Result ⊤ (LineRefusal StageRefusal)) → Outcome
line_outcome = line_outcome_by (λ r. stage_outcome (Err r))

-- the same of a line from unmixed spectra, 17 among the single call's
abbrev pub stereo_line_outcome : (answer : Result ⊤ (LineRefusal StereoRefusal)) → Outcome
stereo_line_outcome = line_outcome_by (λ r. stereo_outcome (Err r))

abbrev pub stereo_line_index : (answer : Result ⊤ (LineRefusal StereoRefusal)) → Option ℕ
stereo_line_index = line_index

-- WHAT IS LENT AND LEFT

-- spectra, intensities, frames and answers have a part for each frame; scaled, codes, factors and side are the work buffers of one frame
pub record LineLent : Type 0 where
  pub spectra : List Float
  pub intensities : List ℕ
  pub scaled : List Float
  pub codes : List ℤ
  pub factors : List ℕ
  pub side : List ℕ
  pub frames : List ℕ
  pub answers : List ℕ
  pub tally : Tally

-- the answer, the index of the frame that was refused, and what is left in each buffer and in the tally
pub record LineLeft : Type 0 where
  pub outcome : Outcome
  pub index : Option ℕ
  pub spectra : List Float
  pub intensities : List ℕ
  pub scaled : List Float
  pub codes : List ℤ
  pub factors : List ℕ
  pub side : List ℕ
  pub frames : List ℕ
  pub answers : List ℕ
  pub tally : Tally

-- a call's buffers at its entry, and its answer, tally and buffers at its exit
abbrev pub line_lent : (spectra : List Float) (intensities : List ℕ) (scaled : List Float) (codes : List ℤ) (factors side frames answers : List ℕ)
    (tally : Tally) → LineLent
line_lent spectra intensities scaled codes factors side frames answers tally = record {
  spectra = spectra;
  intensities = intensities;
  scaled = scaled;
  codes = codes;
  factors = factors;
  side = side;
  frames = frames;
  answers = answers;
  tally = tally;
}

abbrev pub left_with : (outcome : Outcome) (index : Option ℕ) (tally : Tally) (spectra : List Float) (intensities : List ℕ) (scaled : List Float)
    (codes : List ℤ) (factors side frames answers : List ℕ) → LineLeft
left_with outcome index tally spectra intensities scaled codes factors side frames answers = record {
  outcome = outcome;
  index = index;
  spectra = spectra;
  intensities = intensities;
  scaled = scaled;
  codes = codes;
  factors = factors;
  side = side;
  frames = frames;
  answers = answers;
  tally = tally;
}

abbrev pub line_left : (answer : Result ⊤ (LineRefusal StageRefusal)) (tally : Tally) (spectra : List Float) (intensities : List ℕ) (scaled : List Float)
    (codes : List ℤ)
    (factors side frames answers : List ℕ) → LineLeft
line_left answer = left_with (line_outcome answer) (line_index answer)

abbrev pub stereo_line_left : (answer : Result ⊤ (LineRefusal StereoRefusal)) (tally : Tally) (spectra : List Float) (intensities : List ℕ)
    (scaled : List Float) (codes : List ℤ)
    (factors side frames answers : List ℕ) → LineLeft
stereo_line_left answer = left_with (stereo_line_outcome answer) (stereo_line_index answer)

-- THE GATE: refusals 1, 18 and 2, in this order

-- at most 65,535 frames, and no count of the tally above 2^63
unfoldable pub batch_fits : (count : ℕ) (tally : Tally) → Bool
batch_fits count tally = leb count 65535 && (leb tally.frames (2 ^ 63) && (leb tally.bits (2 ^ 63) && leb tally.pairs (2 ^ 63)))

-- the lengths of the lent buffers, those of the answers apart: where the stage has one frame, here are all
abbrev pub line_room : (t : LineLent) → StageRoom
line_room t =
    stage_room_of (length t.spectra) (length t.intensities) (length t.scaled)
    (room_of (length t.factors) (length t.side) (length t.codes) (length t.frames))

unfoldable pub line_has_room : (l : Layout) (count : ℕ) (room : StageRoom) (answers : ℕ) → Bool
line_has_room l count room answers =
    leb (count * spectrum_length l) room.spectra && (leb (count * side_length l) room.intensities && (leb (spectrum_length l) room.scaled
    && (leb (factor_length l) room.stored.factors && (leb (side_length l) room.stored.side && (leb (spectrum_length l) room.stored.codes
    && (leb (count * frame_size l) room.stored.frame && leb (count * 4) answers))))))

-- the first refusal that applies, if any
unfoldable pub line_gate : (l : Layout) (count : ℕ) (room : StageRoom) (answers : ℕ) (tally : Tally) → Option Outcome
line_gate l count room answers tally =
    cond (not (legal_layout l)) (some (refused 1 0))
    (cond (not (batch_fits count tally)) (some (refused 18 0))
    (cond (not (line_has_room l count room answers)) (some (refused 2 0))
    none))

-- ONE FRAME

-- a single call: what it answers, and what it leaves of all that it is lent
abbrev pub Step : Type 0
Step = (l : Layout) (t : StageLent) → StereoLeft

-- the stage, which leaves spectra and intensities as lent
unfoldable pub stage_step : (l : Layout) (t : StageLent) → StereoLeft
stage_step l t = with_signal (lent_signal t) (encode_frame l t)

-- part k of a buffer with n values a part, with new values laid over it
abbrev pub part_overwrite : {A : Type 0} (n : ℕ) (new old : List A) (k : ℕ) → List A
part_overwrite n new old k = take (k * n) old ++ overwrite new (drop (k * n) old)

-- frame k's own parts; the work buffers are lent to every frame
abbrev pub frame_lent : (l : Layout) (k : ℕ) (t : StageLent) → StageLent
frame_lent l k t =
    stage_lent (part (spectrum_length l) t.spectra k) (part (side_length l) t.intensities k) t.scaled t.codes t.factors t.side
    (part (frame_size l) t.frame k)

-- frame k's spectra, intensities and bytes back in their places among those of all frames
abbrev pub frame_placed : (l : Layout) (k : ℕ) (t : StageLent) (x : StereoLeft) → StereoLeft
frame_placed l k t x = record {
  outcome = x.outcome;
  spectra = part_overwrite (spectrum_length l) x.spectra t.spectra k;
  intensities = part_overwrite (side_length l) x.intensities t.intensities k;
  scaled = x.scaled;
  codes = x.codes;
  factors = x.factors;
  side = x.side;
  frame = part_overwrite (frame_size l) x.frame t.frame k;
}

-- the single call on frame k
unfoldable pub step_at : (step : Step) (l : Layout) (k : ℕ) (t : StageLent) → StereoLeft
step_at step l k t = frame_placed l k t (step l (frame_lent l k t))

-- what is stored of a frame's answer: level, boundary, pairs and bits of a delivered one, nothing of a refused one
unfoldable pub answers_of : (o : Outcome) → List ℕ
answers_of (delivered ns) = ns
answers_of (refused number beside) = []

-- one frame more, with its bits and its pairs
abbrev pub gained : (tally : Tally) (bits pairs : ℕ) → Tally
gained tally bits pairs = record { frames = tally.frames + 1; bits = tally.bits + bits; pairs = tally.pairs + pairs }

-- a delivered frame is counted, a refused one is not
unfoldable pub tally_after : (tally : Tally) (o : Outcome) → Tally
tally_after tally (delivered ns) = gained tally (get_or ns 3 0) (get_or ns 2 0)
tally_after tally (refused number beside) = tally

-- what frame k's answer means for the line: a refusal ends it
unfoldable pub turn_outcome : (o : Outcome) → Outcome
turn_outcome (delivered ns) = delivered []
turn_outcome (refused number beside) = refused number beside

unfoldable pub turn_index : (k : ℕ) (o : Outcome) → Option ℕ
turn_index k (delivered ns) = none
turn_index k (refused number beside) = some k

-- the line after frame k's turn, which left x
unfoldable pub line_turn : (k : ℕ) (x : StereoLeft) (answers : List ℕ) (tally : Tally) → LineLeft
line_turn k x answers tally = record {
  outcome = turn_outcome x.outcome;
  index = turn_index k x.outcome;
  spectra = x.spectra;
  intensities = x.intensities;
  scaled = x.scaled;
  codes = x.codes;
  factors = x.factors;
  side = x.side;
  frames = x.frame;
  answers = part_overwrite 4 (answers_of x.outcome) answers k;
  tally = tally_after tally x.outcome;
}

-- THE WHOLE CALL

-- as lent
abbrev pub line_kept : (t : LineLent) (o : Outcome) → LineLeft
line_kept t o = record {
  outcome = o;
  index = none;
  spectra = t.spectra;
  intensities = t.intensities;
  scaled = t.scaled;
  codes = t.codes;
  factors = t.factors;
  side = t.side;
  frames = t.frames;
  answers = t.answers;
  tally = t.tally;
}

-- what is lent to a frame's turn, after the frames before it left x
abbrev pub turn_lent : (x : LineLeft) → StageLent
turn_lent x = stage_lent x.spectra x.intensities x.scaled x.codes x.factors x.side x.frames

-- a line that has ended stays as it is
unfoldable pub onward : (index : Option ℕ) (ended next : LineLeft) → LineLeft
onward (some k) ended next = ended
onward none ended next = next

-- the line after k turns
unfoldable pub line_after : (step : Step) (l : Layout) (t : LineLent) (k : ℕ) → LineLeft
line_after step l t zero = line_kept t (delivered [])
line_after step l t (suc k) =
    let x = line_after step l t k in
    onward x.index x (line_turn k (step_at step l k (turn_lent x)) x.answers x.tally)

-- 1, 18 and 2 change nothing
unfoldable pub line_behind_gate : (g : Option Outcome) (t : LineLent) (x : LineLeft) → LineLeft
line_behind_gate (some o) t x = line_kept t o
line_behind_gate none t x = x

-- a line over any step
unfoldable pub line_over : (step : Step) (l : Layout) (count : ℕ) (t : LineLent) → LineLeft
line_over step l count t = line_behind_gate (line_gate l count (line_room t) (length t.answers) t.tally) t (line_after step l t count)

-- over the stage, from mixed spectra
abbrev pub encode_line : (l : Layout) (count : ℕ) (t : LineLent) → LineLeft
encode_line = line_over stage_step

-- over the stereo stage, from unmixed ones
abbrev pub encode_stereo_line : (l : Layout) (count : ℕ) (t : LineLent) → LineLeft
encode_stereo_line = line_over encode_stereo_frame
