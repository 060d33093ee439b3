-- The stereo stage: what it answers and leaves in every lent buffer, for every call, refused ones too. One definition, so that the contract
-- `stereo_left r .. ≡ encode_stereo_frame layout (stage_lent ..)` allows one outcome only. Behind its gate it is the stage's run on the mixed lists.
use Rattle.std.specs.Prelude.{List, Bool, cond, ℕ, ltb, ℤ, Float, get_or, take, Result, Ok, Err}
use Rattle.std.proofs.Math.Option.{Option, none, some}
use Rattle.std.specs.Float.{nan, binary32}
use Rattle.std.specs.Float.Ieee.{of_bits, lt}
use Rattle.buffers.specs.Walk.{first}
use Rattle.floats.specs.Single.{abs_f}
use Rattle.rules.specs.Layout.{spectrum_length, side_length}
use Rattle.rules.specs.Lent.{overwrite}
use Rattle.rules.specs.Refusals.{Outcome, refused, stage_outcome}
use Rattle.rules.specs.Stage.{StageLent, StageLeft, stage_room, gate, analysis, after_level, stage_kept, stage_overwrite}
use Rattle.rules.specs.declared.Layout.{Layout}
use Rattle.rules.specs.declared.StageRoom.{StageRoom}
use Rattle.rules_stereo.specs.Mixed.{Signal, signal, mixed}
use Rattle.rules.specs.declared.Delivery.{Delivery}
use Rattle.rules_stereo.specs.declared.StereoRefusal.{StereoRefusal}
use Rattle.rules_stereo.specs.declared.StereoRefusal.TheVariants.{TooLoud, Stage}

-- 1, 2, 3, 4, 17, 5, 7 in this order
unfoldable pub stereo_outcome : (answer : Result Delivery StereoRefusal) → Outcome
stereo_outcome (Ok d) = stage_outcome (Ok d)
stereo_outcome (Err TooLoud) = refused 17 0
stereo_outcome (Err (Stage refusal)) = stage_outcome (Err refusal)

-- WHAT IS LEFT: the stage's five buffers, and the two that are mixed

pub record StereoLeft : Type 0 where
  pub outcome : Outcome
  pub spectra : List Float
  pub intensities : List ℕ
  pub scaled : List Float
  pub codes : List ℤ
  pub factors : List ℕ
  pub side : List ℕ
  pub frame : List ℕ

-- a call's answer and buffers at its exit
abbrev pub stereo_left : (answer : Result Delivery StereoRefusal) (spectra : List Float) (intensities : List ℕ) (scaled : List Float) (codes : List ℤ)
    (factors side frame : List ℕ) → StereoLeft
stereo_left answer spectra intensities scaled codes factors side frame = record {
  outcome = stereo_outcome answer;
  spectra = spectra;
  intensities = intensities;
  scaled = scaled;
  codes = codes;
  factors = factors;
  side = side;
  frame = frame;
}

-- what the stage left, beside spectra and intensities
abbrev pub with_signal : (s : Signal) (x : StageLeft) → StereoLeft
with_signal s x = record {
  outcome = x.outcome;
  spectra = s.spectra;
  intensities = s.intensities;
  scaled = x.scaled;
  codes = x.codes;
  factors = x.factors;
  side = x.side;
  frame = x.frame;
}

-- THE GATE: refusals 1 to 4 as the stage's, on what is lent; then 17

-- a magnitude above 65,536
unfoldable pub too_loud : (spectra : List Float) (i : ℕ) → Bool
too_loud spectra i = lt (of_bits binary32 0x47800000) (abs_f (get_or spectra i nan))

-- in any band of any channel, where the stage's gate is open
unfoldable pub judged_loud : (g : Option Outcome) (l : Layout) (spectra : List Float) → Option Outcome
judged_loud (some o) l spectra = some o
judged_loud none l spectra = cond (ltb (first (too_loud spectra) (spectrum_length l)) (spectrum_length l)) (some (refused 17 0)) none

unfoldable pub stereo_gate : (l : Layout) (room : StageRoom) (spectra : List Float) (intensities : List ℕ) → Option Outcome
stereo_gate l room spectra intensities = judged_loud (gate l room spectra intensities) l spectra

-- THE WHOLE CALL

abbrev pub lent_signal : (t : StageLent) → Signal
lent_signal t = signal t.spectra t.intensities

-- mixed over the stated lengths, and put back into longer buffers
unfoldable pub mixed_front : (l : Layout) (s : Signal) → Signal
mixed_front l s = mixed l (signal (take (spectrum_length l) s.spectra) (take (side_length l) s.intensities))

abbrev pub signal_overwrite : (new old : Signal) → Signal
signal_overwrite new old = signal (overwrite new.spectra old.spectra) (overwrite new.intensities old.intensities)

-- behind the gate, after 5 and 7 too: spectra and intensities as mixed, the rest as the stage's run leaves it
unfoldable pub stereo_run : (l : Layout) (t : StageLent) → StereoLeft
stereo_run l t =
    let m = mixed_front l (lent_signal t) in
    with_signal (signal_overwrite m (lent_signal t)) (stage_overwrite t (after_level l (analysis l m.spectra m.intensities)))

-- what the gate refuses changes no buffer
unfoldable pub stereo_behind_gate : (g : Option Outcome) (t : StageLent) (x : StereoLeft) → StereoLeft
stereo_behind_gate (some o) t x = with_signal (lent_signal t) (stage_kept t o)
stereo_behind_gate none t x = x

unfoldable pub encode_stereo_frame : (l : Layout) (t : StageLent) → StereoLeft
encode_stereo_frame l t = stereo_behind_gate (stereo_gate l (stage_room t) t.spectra t.intensities) t (stereo_run l t)
