-- The gate's answer as refusals 1 to 4 of document 01, the gate in two steps, and the room that an open gate grants.
use Rattle.std.specs.Prelude.{◌≡◌, List, Bool, cond, ℕ, ◌≤◌, ltb, Float, Option, Some, None, Result, Ok, Err, ⊤}
use Rattle.std.proofs.Math.Option as math
use Rattle.buffers.specs.Walk.{first}
use Rattle.rules.specs.Layout.{LegalLayout, spectrum_length, side_length, HasRoom}
use Rattle.rules.specs.Refusals.{Outcome, refused, stage_outcome}
use Rattle.rules.specs.Stage.{bad_spectrum, gate}
use Rattle.rules.specs.declared.Layout.{Layout}
use Rattle.rules.specs.declared.StageRoom.{StageRoom}
use Rattle.rules.specs.declared.StageRefusal.{StageRefusal}

-- an open gate refuses nothing, a shut one as the stage
unfoldable pub gate_outcome : (g : Result ⊤ StageRefusal) → math.Option Outcome
gate_outcome (Ok u) = math.none
gate_outcome (Err e) = math.some (stage_outcome (Err e))

-- the first index below n with p, if there is one
unfoldable pub first_if_any : (p : ℕ → Bool) (n : ℕ) → Option ℕ
first_if_any p n = cond (ltb (first p n) n) (Some (first p n)) None

-- rules' `stage_has_room` as facts
pub record StageHasRoom (l : Layout) (room : StageRoom) : Type 0 where
  pub spectra : spectrum_length l ≤ room.spectra
  pub intensities : side_length l ≤ room.intensities
  pub scaled : spectrum_length l ≤ room.scaled
  pub stored : HasRoom l room.stored

-- refusal 4, where none comes before it
unfoldable pub judged_spectra : (g : math.Option Outcome) (l : Layout) (spectra : List Float) → math.Option Outcome
judged_spectra (math.some o) l spectra = math.some o
judged_spectra math.none l spectra =
    let spectrum = first (bad_spectrum spectra) (spectrum_length l) in
    cond (ltb spectrum (spectrum_length l)) (math.some (refused 4 spectrum)) math.none

-- an outcome of 1 to 3: 4 behind it is the whole gate, whatever the spectra are
pub record BeforeSpectra (l : Layout) (room : StageRoom) (intensities : List ℕ) (g : math.Option Outcome) : Type 0 where
  pub rest : (spectra : List Float) → judged_spectra g l spectra ≡ gate l room spectra intensities
  pub granted : g ≡ math.none → LegalLayout l × StageHasRoom l room
