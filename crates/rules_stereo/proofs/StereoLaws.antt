-- What the stereo stage judges first, and what its run leaves. Assumes nothing.
use mathlib.Core.Path.{◌≡◌, refl, ap}
use mathlib.Core.List.{List}
use mathlib.Core.Option.{some}
use Prim.Native.Nat.{ℕ}
use lib.Ieee.{Float}
use Rattle.rules.specs.Lent.{overwrite}
use Rattle.rules.specs.Refusals.{Outcome}
use Rattle.rules.specs.Stage.{StageLent, stage_room, gate, stage_kept}
use Rattle.rules.specs.declared.Layout.{Layout}
use Rattle.rules.specs.declared.StageRoom.{StageRoom}
use Rattle.rules_stereo.specs.Stereo.{with_signal, lent_signal, mixed_front, judged_loud, stereo_gate, stereo_behind_gate, stereo_run, encode_stereo_frame}

-- what the stage's gate refuses, 4 too, comes before 17
pub gate-before-loud : (l : Layout) (room : StageRoom) (spectra : List Float) (intensities : List ℕ) (o : Outcome)
    → gate l room spectra intensities ≡ some o → stereo_gate l room spectra intensities ≡ some o
unfolding stereo_gate judged_loud
gate-before-loud l room spectra intensities o e = ap (λ g. judged_loud g l spectra) e

-- spectra and intensities are judged as lent, and what is refused then stays as lent
pub judged_as_lent : (l : Layout) (t : StageLent) (o : Outcome) → stereo_gate l (stage_room t) t.spectra t.intensities ≡ some o
    → encode_stereo_frame l t ≡ with_signal (lent_signal t) (stage_kept t o)
unfolding encode_stereo_frame stereo_behind_gate
judged_as_lent l t o e = ap (λ g. stereo_behind_gate g t (stereo_run l t)) e

-- whatever the run answers, 5 and 7 too: spectra and intensities are left as mixed
pub left_as_mixed : (l : Layout) (t : StageLent) → let m = mixed_front l (lent_signal t) in
    ((stereo_run l t).spectra ≡ overwrite m.spectra t.spectra) × ((stereo_run l t).intensities ≡ overwrite m.intensities t.intensities)
unfolding stereo_run
left_as_mixed l t = (refl, refl)
