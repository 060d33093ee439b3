-- `stereo_gate::judge_spectra` meets its contract: what is outside is bad or loud, and so loud where none is bad. Assumes nothing.
use mathlib.Core.Path.{sym, ◌∙◌}
use lib.Seq.{length-take-le}
use Rattle.rules_stereo.specs.Stereo.{stereo_outcome}
use Rattle.stereo_gate.specs.StereoGates.{stereo_gate_outcome}
use Rattle.stereo_gate.proofs.Opened.{judged-bad, judged_loud_lem, judged-quiet}
use Rattle.stereo_gate.proofs.judge_spectra.Goals as goal

pub slice_bounds-judged-end : goal.slice_bounds-judged-end
slice_bounds-judged-end c = sym (length-take-le _ _ c.requires.layout_in_bounds)

pub returns-then-not-has_outside : goal.returns-then-not-has_outside
unfolding stereo_gate_outcome
returns-then-not-has_outside c = judged-quiet _ _ c.requires.layout_in_bounds (sym c.has_outside.ensures ∙ c.if-not-has_outside.true)

pub returns-in-Some : goal.returns-in-Some
unfolding stereo_gate_outcome stereo_outcome
returns-in-Some c = judged-bad _ _ c.requires.layout_in_bounds _ (sym c.in-Some.is ∙ c.first_bad_spectrum.ensures)

pub returns-in-None : goal.returns-in-None
unfolding stereo_gate_outcome stereo_outcome
returns-in-None c =
    judged_loud_lem _ _ c.requires.layout_in_bounds (sym c.has_outside.ensures ∙ c.if-not-has_outside.false)
    (sym c.in-None.is ∙ c.first_bad_spectrum.ensures)
