-- `stereo_gate::first_stereo_refusal` meets its contract: what 1 to 3 refuse stays refused, and behind them come 4 and 17. Assumes nothing.
use Rattle.std.specs.Prelude.{Ok, Err}
use mathlib.Core.Path.{ap}
use native.Mathlib.Omega.{arith}
use Rattle.rules_stereo.specs.Stereo.{judged_loud, stereo_outcome}
use Rattle.stage_gate.specs.Gate.{gate_outcome, judged_spectra}
use Rattle.stage_gate.proofs.Rooms.{same_error}
use Rattle.stereo_gate.specs.StereoGates.{stereo_gate_outcome}
use Rattle.stereo_gate.proofs.Opened.{gate_then}
use Rattle.stereo_gate.proofs.first_stereo_refusal.Goals as goal

pub judge_spectra-requires : goal.judge_spectra-requires
unfolding gate_outcome
judge_spectra-requires c =
    let o = c.refusal_before_spectra.ensures.granted (ap gate_outcome c.in_ok-refusal_before_spectra.was) in
    record { legal_layout = o.0; layout_in_bounds = omega (arith, o.1.spectra, c.requires.0) }

pub returns-in_err-refusal_before_spectra : goal.returns-in_err-refusal_before_spectra
unfolding gate_outcome judged_spectra judged_loud stereo_outcome stereo_gate_outcome
returns-in_err-refusal_before_spectra c =
    let r = same_error _ _ c.from_residual.ensures.0 c.from_residual.ensures.1 in
    gate_then _ _ _ _ _ (Err _) _ c.in_err-refusal_before_spectra.was c.refusal_before_spectra.ensures (ap stereo_gate_outcome r)

pub returns : goal.returns
unfolding gate_outcome judged_spectra judged_loud
returns c = gate_then _ _ _ _ _ (Ok _) _ c.in_ok-refusal_before_spectra.was c.refusal_before_spectra.ensures c.judge_spectra.ensures
