-- `stage_gate::refusal_before_spectra` meets its contract. Assumes nothing.
use mathlib.Core.Path.{sym, ◌∙◌}
use Prim.Native.Nat.{◌*◌, ◌≤◌}
use lib.ListN.{length}
use native.Mathlib.Omega.{arith}
use lib.Seq.{length-take-le}
use Rattle.rules.proofs.Layouts.{legal_sizes}
use Rattle.rules.specs.Refusals.{stage_outcome}
use Rattle.rules.specs.Stage.{gate}
use Rattle.stage_gate.specs.Gate.{gate_outcome, judged_spectra}
use Rattle.stage_gate.proofs.Rooms.{long_facts, shut}
use Rattle.stage_gate.proofs.Searches.{bad_intensities_whole, bad_intensities_none}
use Rattle.stage_gate.proofs.refusal_before_spectra.Goals as goal

pub returns-then-not-legal : goal.returns-then-not-legal
unfolding gate gate_outcome judged_spectra stage_outcome
returns-then-not-legal c = record { rest = λ xs. rw (← c.legal.ensures, c.if-not-legal.true); granted = λ h. absurd (shut h) }

pub enough-requires : goal.enough-requires
enough-requires c = legal_sizes _ (sym c.legal.ensures ∙ c.if-not-legal.false)

pub returns-then-not-enough : goal.returns-then-not-enough
unfolding gate gate_outcome judged_spectra stage_outcome
returns-then-not-enough c = record {
  rest = λ xs. rw (← c.legal.ensures, c.if-not-legal.false, ← c.enough.ensures, c.if-not-enough.true);
  granted = λ h. absurd (shut h);
}

pub overflow_mul-layout : goal.overflow_mul-layout
overflow_mul-layout c = omega (arith, legal_sizes _ (sym c.legal.ensures ∙ c.if-not-legal.false))

pub slice_bounds-first_bad_intensity-end : goal.slice_bounds-first_bad_intensity-end
slice_bounds-first_bad_intensity-end c =
    let e = long_facts _ _ (sym c.enough.ensures ∙ c.if-not-enough.false) in
    sym (length-take-le _ _ (omega (arith, e.intensities, c.requires)))

pub first_bad_intensity-requires : goal.first_bad_intensity-requires
first_bad_intensity-requires c =
    let s = legal_sizes _ (sym c.legal.ensures ∙ c.if-not-legal.false) in
    let e = long_facts _ _ (sym c.enough.ensures ∙ c.if-not-enough.false) in
    let k : c.args.layout.channels * 8 ≤ length c.args.intensities.now = omega (arith, e.intensities, c.requires) in
    omega (arith, s, length-take-le _ _ k)

pub returns-in-Some : goal.returns-in-Some
unfolding gate gate_outcome judged_spectra stage_outcome
returns-in-Some c =
    let t = sym c.legal.ensures ∙ c.if-not-legal.false in
    let u = sym c.enough.ensures ∙ c.if-not-enough.false in
    let i = bad_intensities_whole _ _ c.args.intensities.now (omega (arith, (long_facts _ _ u).intensities, c.requires)) _
    (sym c.in-Some.is ∙ c.first_bad_intensity.ensures) in
    record { rest = λ xs. rw (t, u, i.0, i.1); granted = λ h. absurd (shut h) }

pub returns-in-None : goal.returns-in-None
unfolding gate gate_outcome judged_spectra stage_outcome
returns-in-None c =
    let t = sym c.legal.ensures ∙ c.if-not-legal.false in
    let u = sym c.enough.ensures ∙ c.if-not-enough.false in
    let i = bad_intensities_none _ _ c.args.intensities.now (omega (arith, (long_facts _ _ u).intensities, c.requires))
    (sym c.in-None.is ∙ c.first_bad_intensity.ensures) in
    record { rest = λ xs. rw (t, u, i); granted = λ h. (legal_sizes _ t, long_facts _ _ u) }
