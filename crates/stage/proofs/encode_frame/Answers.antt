-- `stage::encode_frame` meets its contract: what the gate refuses is kept, and the rest is the run on its parts. Assumes nothing.
use Rattle.std.specs.Prelude.{Ok, Err}
use mathlib.Core.Path.{sym, ap, ◌∙◌}
use Rattle.rules.specs.Stage.{stage_left, behind_gate}
use Rattle.stage_gate.specs.Gate.{gate_outcome}
use Rattle.stage_gate.proofs.Rooms.{gate_open, gate_lets, same_error}
use Rattle.stage.proofs.Gated.{gate-finite}
use Rattle.stage.proofs.encode_frame.Goals as goal

pub returns-in_err-first_refusal : goal.returns-in_err-first_refusal
unfolding behind_gate gate_outcome
returns-in_err-first_refusal c =
    let r = same_error _ _ c.from_residual.ensures.0 c.from_residual.ensures.1 in
    let t = c.args in
    gate_lets _ _ (Err _) _ (ap gate_outcome (sym c.in_err-first_refusal.was) ∙ c.first_refusal.ensures)
    (ap (λ a. stage_left a t.scaled.now t.codes.now t.factors.now t.side.now t.frame.now) r)

pub encode_parts-requires : goal.encode_parts-requires
unfolding gate_outcome
encode_parts-requires c =
    let e = sym c.first_refusal.ensures ∙ ap gate_outcome c.in_ok-first_refusal.was in
    let g = gate_open _ _ _ _ e in
    record { legal_layout = g.0; stage_has_room = g.1; all_finite = gate-finite _ _ _ _ e }

pub returns : goal.returns
unfolding behind_gate gate_outcome
returns c =
    gate_lets _ _ (Ok _) _ (ap gate_outcome (sym c.in_ok-first_refusal.was) ∙ c.first_refusal.ensures) c.encode_parts.ensures
