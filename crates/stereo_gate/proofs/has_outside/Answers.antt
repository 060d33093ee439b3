use mathlib.Core.Path.{sym, ◌∙◌}
use native.Mathlib.Nat.{sub-zero}
use Rattle.rules.specs.Stage.{bad_spectrum}
use Rattle.rules_stereo.specs.Stereo.{too_loud}
use Rattle.stereo_gate.proofs.Loud.{either_turn, either_end}
use Rattle.stereo_gate.proofs.has_outside.Goals as goal

pub loop-x-init : goal.loop-x-init
loop-x-init c = rw sub-zero

pub loop-x-preserved : goal.loop-x-preserved
unfolding bad_spectrum too_loud
loop-x-preserved c =
    let l = c.loop-x in
    let xs = c.args.spectra.now in
    rw c.is_outside-found.ensures (l.invariant ∙ either_turn (bad_spectrum xs) (too_loud xs) _ _ l.found c.loop-x-test.true)

pub returns : goal.returns
returns c = sym (c.loop-x.invariant ∙ either_end _ _ _ _ c.loop-x.found c.loop-x-test.false)
