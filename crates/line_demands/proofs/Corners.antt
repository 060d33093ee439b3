-- Request A5's limits, worked out: what a batch and its buffers may be, and the order of refusals 1, 18 and 2. Assumes nothing.
use mathlib.Core.Path.{◌≡◌, refl}
use mathlib.Core.List.{List, [], ◌∷◌, ◌++◌, map}
use mathlib.Core.Bool.{Bool, true, false}
use mathlib.Core.Option.{Option, none, some}
use Prim.Native.Nat.{ℕ, ◌^◌, ◌+◌, ◌*◌}
use lib.IntN.{ℤ}
use lib.Ieee.{Float}
use lib.ListN.{length, replicate}
use Rattle.rules.specs.Layout.{legal_layout, room_of, part}
use Rattle.rules.specs.Refusals.{Outcome, delivered, refused, stage_outcome}
use Rattle.rules.specs.Stage.{stage_lent, stage_room_of}
use Rattle.rules.specs.declared.ChannelType.TheVariants.{Discrete}
use Rattle.rules.specs.declared.Mode.TheVariants.{Rust}
use Rattle.rules.specs.declared.Layout.{Layout}
use Rattle.std.specs.Prelude.{Result, Ok, Err, ⊤}
use Rattle.rules.specs.declared.StageRefusal.{StageRefusal}
use Rattle.rules.specs.declared.StageRefusal.TheVariants as stage
use Rattle.rules.specs.declared.StageRoom.{StageRoom}
use Rattle.rules_stereo.specs.Stereo.{stereo_outcome, StereoLeft}
use Rattle.rules_stereo.specs.declared.StereoRefusal.{StereoRefusal}
use Rattle.rules_stereo.specs.declared.StereoRefusal.TheVariants.{TooLoud}
use Rattle.rules_line.specs.Line.{LineLeft, line_outcome_by, line_outcome, line_index, stereo_line_outcome}
use Rattle.rules_line.specs.Line.{stereo_line_index, line_lent, line_left, stereo_line_left, batch_fits, line_room}
use Rattle.rules_line.specs.Line.{line_has_room, line_gate}
use Rattle.rules_line.specs.Line.{part_overwrite, frame_lent, frame_placed, answers_of, tally_after, turn_outcome, turn_index, line_turn, line_kept, turn_lent}
use Rattle.rules_line.specs.declared.LineRefusal.{LineRefusal}
use Rattle.rules_line.specs.declared.LineRefusal.TheVariants.{BadLayout, BadBatch, ShortBuffer, Frame}
use Rattle.rules_line.specs.declared.Tally.{Tally}

abbrev tally : (frames bits pairs : ℕ) → Tally
tally frames bits pairs = record { frames = frames; bits = bits; pairs = pairs }

-- 65,535 frames and counts of 2^63 are taken, the next numbers are not
abbrev most : ℕ
most = 9223372036854775808

pub batch_row :
    batch_fits 65535 (tally most most most) ∷ batch_fits 65536 (tally 0 0 0) ∷ batch_fits 0 (tally (most + 1) 0 0) ∷ batch_fits 0 (tally 0 (most + 1) 0)
    ∷ batch_fits 0 (tally 0 0 (most + 1)) ∷ []
    ≡ true ∷ false ∷ false ∷ false ∷ false ∷ []
unfolding batch_fits
batch_row = refl

-- two channels, ten bytes a frame
abbrev two : (channels : ℕ) → Layout
two channels = record {
  channels = channels;
  kinds = replicate 16 (record { kind = Discrete });
  base = 1;
  stereo = 0;
  total = 1;
  frame_size = 10;
  minimum = 1;
  maximum = 15;
  mode = Rust;
}

abbrev lengths : (spectra intensities scaled factors side codes frames : ℕ) → StageRoom
lengths spectra intensities scaled factors side codes frames = stage_room_of spectra intensities scaled (room_of factors side codes frames)

-- three frames: spectra, intensities, frames and answers have three parts, the work buffers one; no length may be one less
pub room_row :
    line_has_room (two 2) 3 (lengths 6144 48 2048 256 16 2048 30) 12 ∷ line_has_room (two 2) 3 (lengths 6143 48 2048 256 16 2048 30) 12
    ∷ line_has_room (two 2) 3 (lengths 6144 47 2048 256 16 2048 30) 12 ∷ line_has_room (two 2) 3 (lengths 6144 48 2047 256 16 2048 30) 12
    ∷ line_has_room (two 2) 3 (lengths 6144 48 2048 255 16 2048 30) 12 ∷ line_has_room (two 2) 3 (lengths 6144 48 2048 256 15 2048 30) 12
    ∷ line_has_room (two 2) 3 (lengths 6144 48 2048 256 16 2047 30) 12 ∷ line_has_room (two 2) 3 (lengths 6144 48 2048 256 16 2048 29) 12
    ∷ line_has_room (two 2) 3 (lengths 6144 48 2048 256 16 2048 30) 11 ∷ []
    ≡ true ∷ replicate 8 false
unfolding line_has_room
room_row = refl

-- 1 before 18, 18 before 2
abbrev gate : (channels count : ℕ) (room : ℕ) → Option Outcome
gate channels count room = line_gate (two channels) count (lengths room room room room room room room) room (tally 0 0 0)

pub gate-row : gate 0 65536 0 ∷ gate 2 65536 0 ∷ gate 2 1 0 ∷ gate 2 1 2048 ∷ [] ≡ some (refused 1 0) ∷ some (refused 18 0) ∷ some (refused 2 0) ∷ none ∷ []
unfolding line_gate batch_fits line_has_room legal_layout
gate-row = refl

-- what a single call left
abbrev left_by : (o : Outcome) (spectra : List Float) (intensities : List ℕ) (scaled : List Float) (codes : List ℤ) (factors side frame : List ℕ) → StereoLeft
left_by o spectra intensities scaled codes factors side frame = record {
  outcome = o;
  spectra = spectra;
  intensities = intensities;
  scaled = scaled;
  codes = codes;
  factors = factors;
  side = side;
  frame = frame;
}

-- each buffer of a call is lent and left under its own name
module _ (spectra : List Float) (intensities : List ℕ) (scaled : List Float) (codes : List ℤ) (factors side frames answers : List ℕ) (t : Tally)
    (a : Result ⊤ (LineRefusal StageRefusal)) (b : Result ⊤ (LineRefusal StereoRefusal)) where
  pub lent_names :
      let x = line_lent spectra intensities scaled codes factors side frames answers t in
      (x.spectra ≡ spectra) × (x.intensities ≡ intensities) × (x.scaled ≡ scaled) × (x.codes ≡ codes) × (x.factors ≡ factors) × (x.side ≡ side)
      × (x.frames ≡ frames) × (x.answers ≡ answers) × (x.tally ≡ t)
  lent_names = (refl, refl, refl, refl, refl, refl, refl, refl, refl)

  pub lent-lengths :
      let r = line_room (line_lent spectra intensities scaled codes factors side frames answers t) in
      (r.spectra ≡ length spectra) × (r.intensities ≡ length intensities) × (r.scaled ≡ length scaled) × (r.stored.factors ≡ length factors)
      × (r.stored.side ≡ length side) × (r.stored.codes ≡ length codes) × (r.stored.frame ≡ length frames)
  lent-lengths = (refl, refl, refl, refl, refl, refl, refl)

  pub left_names :
      let x = line_left a t spectra intensities scaled codes factors side frames answers in
      (x.outcome ≡ line_outcome a) × (x.index ≡ line_index a) × (x.spectra ≡ spectra) × (x.intensities ≡ intensities) × (x.scaled ≡ scaled)
      × (x.codes ≡ codes) × (x.factors ≡ factors) × (x.side ≡ side) × (x.frames ≡ frames) × (x.answers ≡ answers) × (x.tally ≡ t)
  left_names = (refl, refl, refl, refl, refl, refl, refl, refl, refl, refl, refl)

  pub stereo_left_names :
      let x = stereo_line_left b t spectra intensities scaled codes factors side frames answers in
      (x.outcome ≡ stereo_line_outcome b) × (x.index ≡ stereo_line_index b) × (x.spectra ≡ spectra) × (x.intensities ≡ intensities) × (x.scaled ≡ scaled)
      × (x.codes ≡ codes) × (x.factors ≡ factors) × (x.side ≡ side) × (x.frames ≡ frames) × (x.answers ≡ answers) × (x.tally ≡ t)
  stereo_left_names = (refl, refl, refl, refl, refl, refl, refl, refl, refl, refl, refl)

  -- kept as lent
  pub kept_names : (o : Outcome) → let x = line_kept (line_lent spectra intensities scaled codes factors side frames answers t) o in
      (x.outcome ≡ o) × (x.index ≡ none) × (x.spectra ≡ spectra) × (x.intensities ≡ intensities) × (x.scaled ≡ scaled)
      × (x.codes ≡ codes) × (x.factors ≡ factors) × (x.side ≡ side) × (x.frames ≡ frames) × (x.answers ≡ answers) × (x.tally ≡ t)
  kept_names o = (refl, refl, refl, refl, refl, refl, refl, refl, refl, refl, refl)

  -- a frame's own parts, and the work buffers whole
  pub parts_names : (l : Layout) (k : ℕ) → let x = frame_lent l k (stage_lent spectra intensities scaled codes factors side frames) in
      (x.spectra ≡ part (l.channels * 1024) spectra k) × (x.intensities ≡ part (l.channels * 8) intensities k) × (x.scaled ≡ scaled)
      × (x.codes ≡ codes) × (x.factors ≡ factors) × (x.side ≡ side) × (x.frame ≡ part l.frame_size frames k)
  parts_names l k = (refl, refl, refl, refl, refl, refl, refl)

  -- what the single call left, its spectra, intensities and frame laid in their places
  pub placed_names : (l : Layout) (k : ℕ) (o : Outcome) (floats : List Float) →
      let x = frame_placed l k (stage_lent floats factors [] [] [] [] answers) (left_by o spectra intensities scaled codes factors side frames) in
      (x.outcome ≡ o) × (x.spectra ≡ part_overwrite (l.channels * 1024) spectra floats k)
      × (x.intensities ≡ part_overwrite (l.channels * 8) intensities factors k) × (x.scaled ≡ scaled) × (x.codes ≡ codes) × (x.factors ≡ factors)
      × (x.side ≡ side) × (x.frame ≡ part_overwrite l.frame_size frames answers k)
  placed_names l k o floats = (refl, refl, refl, refl, refl, refl, refl, refl)

  -- a turn is lent the buffers that the turns before it left
  pub turn_names :
      let x = turn_lent (line_left a t spectra intensities scaled codes factors side frames answers) in
      (x.spectra ≡ spectra) × (x.intensities ≡ intensities) × (x.scaled ≡ scaled) × (x.codes ≡ codes) × (x.factors ≡ factors) × (x.side ≡ side)
      × (x.frame ≡ frames)
  turn_names = (refl, refl, refl, refl, refl, refl, refl)

-- each answer; the last of a frame that was refused
abbrev answers_with : {R : Type 0} → R → List (Result ⊤ (LineRefusal R))
answers_with r = Ok tt ∷ Err BadLayout ∷ Err BadBatch ∷ Err ShortBuffer ∷ Err (Frame 5 r) ∷ []

abbrev stage_answers : List (Result ⊤ (LineRefusal StageRefusal))
stage_answers = answers_with (stage.TooLong 9)

abbrev stereo_answers : List (Result ⊤ (LineRefusal StereoRefusal))
stereo_answers = answers_with TooLoud

-- the number of each answer: a refused frame's is the single call's; and its index, which no other answer has
pub number-row : map line_outcome stage_answers
    ≡ delivered [] ∷ refused 1 0 ∷ refused 18 0 ∷ refused 2 0 ∷ refused 7 9 ∷ []
unfolding line_outcome_by stage_outcome
number-row = refl

pub index-row : map line_index stage_answers ≡ none ∷ none ∷ none ∷ none ∷ some 5 ∷ []
unfolding line_index
index-row = refl

-- the same of a line from unmixed spectra, whose frames may be refused with 17 too
pub stereo-number-row : map stereo_line_outcome stereo_answers
    ≡ delivered [] ∷ refused 1 0 ∷ refused 18 0 ∷ refused 2 0 ∷ refused 17 0 ∷ []
unfolding line_outcome_by stereo_outcome
stereo-number-row = refl

pub stereo-index-row : map stereo_line_index stereo_answers
    ≡ none ∷ none ∷ none ∷ none ∷ some 5 ∷ []
unfolding line_index
stereo-index-row = refl

-- one turn: frame 1 was delivered with level 40, boundary 3, 2 pairs removed and 100 bits, or refused with 7; its answers stand in the second part of four
abbrev leaves : Outcome → StereoLeft
leaves o = left_by o [] (2 ∷ []) [] [] (3 ∷ []) (4 ∷ []) (5 ∷ [])

abbrev turned : (o : Outcome) → LineLeft
turned o = line_turn 1 (leaves o) (replicate 9 7) (tally 10 20 30)

pub turn-row :
    (turned (delivered (40 ∷ 3 ∷ 2 ∷ 100 ∷ [])) ≡ record {
      outcome = delivered [];
      index = none;
      spectra = [];
      intensities = 2 ∷ [];
      scaled = [];
      codes = [];
      factors = 3 ∷ [];
      side = 4 ∷ [];
      frames = 5 ∷ [];
      answers = 7 ∷ 7 ∷ 7 ∷ 7 ∷ 40 ∷ 3 ∷ 2 ∷ 100 ∷ 7 ∷ [];
      tally = tally 11 120 32;
    })
    × (turned (refused 7 9) ≡ record {
      outcome = refused 7 9;
      index = some 1;
      spectra = [];
      intensities = 2 ∷ [];
      scaled = [];
      codes = [];
      factors = 3 ∷ [];
      side = 4 ∷ [];
      frames = 5 ∷ [];
      answers = replicate 9 7;
      tally = tally 10 20 30;
    })
unfolding line_turn turn_outcome turn_index answers_of tally_after
turn-row = (refl, refl)

-- parts of two, laid over the first, the second and the third; and one value over a part
abbrev over : (new : List ℕ) (k : ℕ) → List ℕ
over new k = part_overwrite 2 new (0 ∷ 1 ∷ 2 ∷ 3 ∷ 4 ∷ 5 ∷ 6 ∷ []) k

pub part-row :
    map (over (8 ∷ 9 ∷ [])) (0 ∷ 1 ∷ 2 ∷ []) ++ (over (8 ∷ []) 1 ∷ [])
    ≡ (8 ∷ 9 ∷ 2 ∷ 3 ∷ 4 ∷ 5 ∷ 6 ∷ []) ∷ (0 ∷ 1 ∷ 8 ∷ 9 ∷ 4 ∷ 5 ∷ 6 ∷ []) ∷ (0 ∷ 1 ∷ 2 ∷ 3 ∷ 8 ∷ 9 ∷ 6 ∷ []) ∷ (0 ∷ 1 ∷ 8 ∷ 3 ∷ 4 ∷ 5 ∷ 6 ∷ []) ∷ []
part-row = refl
