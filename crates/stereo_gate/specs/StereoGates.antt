-- The gate's answer as refusals 1 to 4 and 17.
use Rattle.std.specs.Prelude.{Result, Ok, Err, ⊤}
use Rattle.std.proofs.Math.Option.{Option, none, some}
use Rattle.rules.specs.Refusals.{Outcome}
use Rattle.rules_stereo.specs.Stereo.{stereo_outcome}
use Rattle.rules_stereo.specs.declared.StereoRefusal.{StereoRefusal}

unfoldable pub stereo_gate_outcome : (g : Result ⊤ StereoRefusal) → Option Outcome
stereo_gate_outcome (Ok u) = none
stereo_gate_outcome (Err e) = some (stereo_outcome (Err e))
