-- The stage: what it answers and leaves in every lent buffer, for every call, refused ones too. One definition, so that the contract
-- `stage_left r .. ≡ encode_frame layout (stage_lent ..)` allows one outcome only.
use Rattle.std.specs.Prelude.{List, [], ◌∷◌, Bool, cond, not, ◌&&◌, ℕ, ◌/◌, leb, ltb, ℤ, Float, length, get_or, take, Result}
use Rattle.std.proofs.Math.Option.{Option, none, some}
use Rattle.std.specs.Float.{nan}
use Rattle.std.specs.Float.Ieee.Scale.{finite}
use Rattle.buffers.specs.Walk.{first}
use Rattle.rules.specs.Layout.{legal_layout, secondary_at, spectrum_length, side_length, room_of, has_room}
use Rattle.rules.specs.Factor.{all_factors}
use Rattle.rules.specs.Scaling.{all_scaled}
use Rattle.rules.specs.Hfr.{all_side}
use Rattle.rules.specs.Estimate.{exceeds}
use Rattle.rules.specs.Level.{LevelFound, noise_level}
use Rattle.rules.specs.Boundary.{boundary_of}
use Rattle.rules.specs.Resolution.{all_resolutions}
use Rattle.rules.specs.Code.{all_codes}
use Rattle.rules.specs.Record.{Rec, rec_of}
use Rattle.rules.specs.Fields.{fields}
use Rattle.rules.specs.Frame.{field_end, frame_of}
use Rattle.rules.specs.Refusals.{Outcome, delivered, refused, stage_outcome}
use Rattle.rules.specs.Lent.{overwrite, no_floats, no_codes, no_factors, no_side, no_frame}
use Rattle.rules.specs.declared.Layout.{Layout}
use Rattle.rules.specs.declared.Room.{Room}
use Rattle.rules.specs.declared.StageRoom.{StageRoom}
use Rattle.rules.specs.declared.Delivery.{Delivery}
use Rattle.rules.specs.declared.StageRefusal.{StageRefusal}

-- WHAT IS LENT AND LEFT

pub record StageLent : Type 0 where
  pub spectra : List Float
  pub intensities : List ℕ
  pub scaled : List Float
  pub codes : List ℤ
  pub factors : List ℕ
  pub side : List ℕ
  pub frame : List ℕ

-- the answer, and what is left in each written buffer
pub record StageLeft : Type 0 where
  pub outcome : Outcome
  pub scaled : List Float
  pub codes : List ℤ
  pub factors : List ℕ
  pub side : List ℕ
  pub frame : List ℕ

-- a call's buffers at its entry, and its answer and buffers at its exit
abbrev pub stage_lent : (spectra : List Float) (intensities : List ℕ) (scaled : List Float) (codes : List ℤ) (factors side frame : List ℕ) → StageLent
stage_lent spectra intensities scaled codes factors side frame = record {
  spectra = spectra;
  intensities = intensities;
  scaled = scaled;
  codes = codes;
  factors = factors;
  side = side;
  frame = frame;
}

abbrev pub stage_left : (answer : Result Delivery StageRefusal) (scaled : List Float) (codes : List ℤ) (factors side frame : List ℕ) → StageLeft
stage_left answer scaled codes factors side frame = record {
  outcome = stage_outcome answer;
  scaled = scaled;
  codes = codes;
  factors = factors;
  side = side;
  frame = frame;
}

-- THE GATE: refusals 1 to 4, in this order

-- the lengths of the lent buffers
abbrev pub stage_room_of : (spectra intensities scaled : ℕ) (stored : Room) → StageRoom
stage_room_of spectra intensities scaled stored = record { spectra = spectra; intensities = intensities; scaled = scaled; stored = stored }

abbrev pub stage_room : (t : StageLent) → StageRoom
stage_room t =
    stage_room_of (length t.spectra) (length t.intensities) (length t.scaled)
    (room_of (length t.factors) (length t.side) (length t.codes) (length t.frame))

unfoldable pub stage_has_room : (l : Layout) (room : StageRoom) → Bool
stage_has_room l room =
    leb (spectrum_length l) room.spectra
    && (leb (side_length l) room.intensities && (leb (spectrum_length l) room.scaled && has_room l room.stored))

-- a secondary's intensity above 15; a spectrum NaN or infinite, any band
unfoldable pub bad_intensity : (l : Layout) (intensities : List ℕ) (i : ℕ) → Bool
bad_intensity l intensities i = ltb 15 (get_or intensities i 0) && secondary_at l (i / 8)

unfoldable pub bad_spectrum : (spectra : List Float) (i : ℕ) → Bool
bad_spectrum spectra i = not (finite (get_or spectra i nan))

-- the first refusal that applies, if any
unfoldable pub gate : (l : Layout) (room : StageRoom) (spectra : List Float) (intensities : List ℕ) → Option Outcome
gate l room spectra intensities =
    let intensity = first (bad_intensity l intensities) (side_length l) in
    let spectrum = first (bad_spectrum spectra) (spectrum_length l) in
    cond (not (legal_layout l)) (some (refused 1 0))
    (cond (not (stage_has_room l room)) (some (refused 2 0))
    (cond (ltb intensity (side_length l)) (some (refused 3 intensity))
    (cond (ltb spectrum (spectrum_length l)) (some (refused 4 spectrum))
    none)))

-- THE RUN, of C x 1,024 spectra and C x 8 intensities

-- what the rules make of them
pub record Analysis : Type 0 where
  pub scaled : List Float
  pub side : List ℕ
  pub found : LevelFound
  pub boundary : ℕ
  pub codes : List ℤ

abbrev pub level_found : (l : Layout) (scaled : List Float) (factors : List ℕ) → LevelFound
level_found l scaled factors = noise_level l (λ fs level. exceeds l scaled fs level 0) factors

abbrev pub boundary_for : (l : Layout) (scaled : List Float) (found : LevelFound) → ℕ
boundary_for l scaled found = boundary_of found.level (exceeds l scaled found.factors found.level)

-- from the level on
unfoldable pub analysis_from : (l : Layout) (scaled : List Float) (side : List ℕ) (found : LevelFound) → Analysis
analysis_from l scaled side found =
    let boundary = boundary_for l scaled found in
    record {
      scaled = scaled;
      side = side;
      found = found;
      boundary = boundary;
      codes = all_codes l (all_resolutions l found.level boundary found.factors) scaled;
    }

unfoldable pub analysis : (l : Layout) (spectra : List Float) (intensities : List ℕ) → Analysis
analysis l spectra intensities =
    let factors = all_factors l spectra in
    let scaled = all_scaled l spectra factors in
    analysis_from l scaled (all_side l spectra scaled intensities) (level_found l scaled factors)

-- the record that the stage makes
unfoldable pub stage_record : (l : Layout) (m : Analysis) → Rec
stage_record l m = rec_of l m.found.level m.boundary m.found.factors m.side m.codes

-- after 5 and 7 all output buffers are zero over document 01's lengths
abbrev pub cleared : (l : Layout) (o : Outcome) → StageLeft
cleared l o = record { outcome = o; scaled = no_floats l; codes = no_codes l; factors = no_factors l; side = no_side l; frame = no_frame l }

-- a success
unfoldable pub delivery : (l : Layout) (m : Analysis) → StageLeft
delivery l m = record {
  outcome = delivered (m.found.level ∷ m.boundary ∷ m.found.pairs ∷ length (fields l (stage_record l m)) ∷ []);
  scaled = m.scaled;
  codes = m.codes;
  factors = m.found.factors;
  side = m.side;
  frame = frame_of l (stage_record l m);
}

-- refusal 7, beside it the bits that all fields need, or a success
unfoldable pub after_packing : (l : Layout) (m : Analysis) → StageLeft
after_packing l m =
    let bit_count = length (fields l (stage_record l m)) in
    cond (ltb (field_end l) bit_count) (cleared l (refused 7 bit_count)) (delivery l m)

-- refusal 5, or the rest
unfoldable pub after_level : (l : Layout) (m : Analysis) → StageLeft
after_level l m = cond (ltb 254 m.found.level) (cleared l (refused 5 m.found.pairs)) (after_packing l m)

-- THE WHOLE CALL

-- refusals 1 to 4 change nothing
abbrev pub stage_kept : (t : StageLent) (o : Outcome) → StageLeft
stage_kept t o = record { outcome = o; scaled = t.scaled; codes = t.codes; factors = t.factors; side = t.side; frame = t.frame }

-- what the run leaves, in longer buffers
abbrev pub stage_overwrite : (t : StageLent) (x : StageLeft) → StageLeft
stage_overwrite t x = record {
  outcome = x.outcome;
  scaled = overwrite x.scaled t.scaled;
  codes = overwrite x.codes t.codes;
  factors = overwrite x.factors t.factors;
  side = overwrite x.side t.side;
  frame = overwrite x.frame t.frame;
}

-- gated a gate that is shut or open
unfoldable pub behind_gate : (g : Option Outcome) (t : StageLent) (x : StageLeft) → StageLeft
behind_gate (some o) t x = stage_kept t o
behind_gate none t x = stage_overwrite t x

unfoldable pub encode_frame : (l : Layout) (t : StageLent) → StageLeft
encode_frame l t =
    behind_gate (gate l (stage_room t) t.spectra t.intensities) t
    (after_level l (analysis l (take (spectrum_length l) t.spectra) (take (side_length l) t.intensities)))
