-- `stage_gate::first_refusal` meets its contract: 1 to 3 stay, and behind them comes 4. Assumes nothing.
use mathlib.Core.Path.{sym, ap, ◌∙◌}
use native.Mathlib.Omega.{arith}
use lib.Seq.{length-take-le}
use Rattle.rules.specs.Refusals.{stage_outcome}
use Rattle.stage_gate.specs.Gate.{gate_outcome, judged_spectra}
use Rattle.stage_gate.proofs.Rooms.{before_stays, before-none, same_error}
use Rattle.stage_gate.proofs.Searches.{bad_spectra_whole, bad_spectra_none}
use Rattle.stage_gate.proofs.first_refusal.Goals as goal

pub returns-in_err-refusal_before_spectra : goal.returns-in_err-refusal_before_spectra
returns-in_err-refusal_before_spectra c =
    let w = c.in_err-refusal_before_spectra.was in
    let r = same_error _ _ c.from_residual.ensures.0 c.from_residual.ensures.1 in
    ap gate_outcome r ∙ before_stays _ _ _ ∙ ap (λ g. judged_spectra (gate_outcome g) c.args.layout c.args.spectra.now) (sym w)
    ∙ c.refusal_before_spectra.ensures.rest _

pub overflow_mul-layout : goal.overflow_mul-layout
unfolding gate_outcome
overflow_mul-layout c =
    let o = c.refusal_before_spectra.ensures.granted (ap gate_outcome (c.in_ok-refusal_before_spectra.was)) in
    omega (arith, o.0)

pub slice_bounds-first_bad_spectrum-end : goal.slice_bounds-first_bad_spectrum-end
unfolding gate_outcome
slice_bounds-first_bad_spectrum-end c =
    let o = c.refusal_before_spectra.ensures.granted (ap gate_outcome (c.in_ok-refusal_before_spectra.was)) in
    sym (length-take-le _ _ (omega (arith, o.1.spectra, c.requires.0)))

pub returns-in-Some : goal.returns-in-Some
unfolding gate_outcome judged_spectra stage_outcome
returns-in-Some c =
    let xs = c.args.spectra.now in
    let b = c.refusal_before_spectra.ensures in
    let e = ap gate_outcome (c.in_ok-refusal_before_spectra.was) in
    let i = bad_spectra_whole _ xs (omega (arith, (b.granted e).1.spectra, c.requires.0)) _ (sym c.in-Some.is ∙ c.first_bad_spectrum.ensures) in
    rw (i.0, i.1) at (before-none _ _ xs _ _ b e)

pub returns : goal.returns
unfolding gate_outcome judged_spectra stage_outcome
returns c =
    let xs = c.args.spectra.now in
    let b = c.refusal_before_spectra.ensures in
    let e = ap gate_outcome (c.in_ok-refusal_before_spectra.was) in
    let i = bad_spectra_none _ xs (omega (arith, (b.granted e).1.spectra, c.requires.0)) (sym c.in_default.is ∙ c.first_bad_spectrum.ensures) in
    rw i at (before-none _ _ xs _ _ b e)
