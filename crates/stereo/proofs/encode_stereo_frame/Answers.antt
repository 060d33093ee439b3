-- `stereo::encode_stereo_frame` meets its contract: what the gate refuses is kept, and the rest is the run on what is mixed. Assumes nothing.
use Rattle.std.specs.Prelude.{Ok, Err}
use mathlib.Core.Path.{sym, ap, ◌∙◌}
use Rattle.rules_stereo.specs.Stereo.{stereo_left, stereo_behind_gate}
use Rattle.stereo_gate.specs.StereoGates.{stereo_gate_outcome}
use Rattle.stage_gate.proofs.Rooms.{same_error}
use Rattle.stereo_gate.proofs.Opened.{stereo_open, stereo_lets}
use Rattle.rules_stereo.specs.declared.StereoRefusal.TheVariants.{Stage}
use Rattle.stereo.proofs.Fronts.{handed_success, handed_refusal}
use Rattle.stereo.proofs.MixedGate.{mixed-fine}
use Rattle.stereo.proofs.encode_stereo_frame.Goals as goal

pub returns-in_err-first_stereo_refusal : goal.returns-in_err-first_stereo_refusal
unfolding stereo_behind_gate stereo_gate_outcome
returns-in_err-first_stereo_refusal c =
    let r = same_error _ _ c.from_residual.ensures.0 c.from_residual.ensures.1 in
    let t = c.args in
    stereo_lets _ _ (Err _) _ (ap stereo_gate_outcome (sym c.in_err-first_stereo_refusal.was) ∙ c.first_stereo_refusal.ensures)
    (ap (λ a. stereo_left a t.spectra.now t.intensities.now t.scaled.now t.codes.now t.factors.now t.side.now t.frame.now) r)

pub encode_mixed-requires : goal.encode_mixed-requires
unfolding stereo_gate_outcome
encode_mixed-requires c =
    let e = sym c.first_stereo_refusal.ensures ∙ ap stereo_gate_outcome c.in_ok-first_stereo_refusal.was in
    let g = stereo_open _ _ _ _ e in
    record { legal_layout = g.0; stage_has_room = g.1; all_finite = mixed-fine _ _ _ _ g.0 g.1.spectra e }

pub returns-in_err-encode_mixed : goal.returns-in_err-encode_mixed
unfolding stereo_behind_gate stereo_gate_outcome
returns-in_err-encode_mixed c =
    let k = c.from_residual-in_err-encode_mixed.ensures in
    let r = same_error _ (Stage c.in_err-encode_mixed.field-0.0) k.0 k.1 in
    stereo_lets _ _ (Ok _) _ (ap stereo_gate_outcome (sym c.in_ok-first_stereo_refusal.was) ∙ c.first_stereo_refusal.ensures)
    (handed_refusal _ _ _ _ _ _ _ _ _ c.encode_mixed.ensures _ _ c.in_err-encode_mixed.was r)

pub returns : goal.returns
unfolding stereo_behind_gate stereo_gate_outcome
returns c =
    stereo_lets _ _ (Ok _) _ (ap stereo_gate_outcome (sym c.in_ok-first_stereo_refusal.was) ∙ c.first_stereo_refusal.ensures)
    (handed_success _ _ _ _ _ _ _ _ _ c.encode_mixed.ensures _ c.in_ok-encode_mixed.was)
