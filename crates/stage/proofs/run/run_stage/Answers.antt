-- `stage::run::run_stage` meets its contract. Assumes nothing.
use mathlib.Core.Path.{sym, ap, subst, ◌∙◌}
use Prim.Native.Nat.{◌<◌}
use native.Mathlib.Omega.{arith}
use lib.ListN.{get_or}
use Rattle.factors.proofs.Small.{factors-small}
use Rattle.within.specs.Within.{AllWithin}
use Rattle.within.proofs.StageWithin.{all-within}
use Rattle.rules.specs.Stage.{after_level}
use Rattle.stage.proofs.Prepared.{made_of_prepared}
use Rattle.stage.proofs.Wiped.{wiped_stays, wiped-cleared}
use Rattle.stage.proofs.run.run_stage.Goals as goal

pub level_to_frame-answer-requires-clause-at_most : goal.level_to_frame-answer-requires-clause-at_most
level_to_frame-answer-requires-clause-at_most c =
    let p = c.prepare in (
      (λ i. let h = subst (λ fs. get_or fs i 0 < 64) (sym p.ensures.factored) (factors-small _ _ i) in omega arith),
      subst AllWithin (sym p.ensures.rated) (all-within _ _ c.requires.all_finite c.requires.stage_lengths.spectra),
    )

pub returns-then-is_err : goal.returns-then-is_err
returns-then-is_err c =
    let a = c.requires.stage_lengths in
    let p = c.prepare in
    let t = c.level_to_frame-answer in
    let e = c.clear_all.ensures in
    wiped-cleared _ _ _ _ _ _ _ _ _ _ _ _ (sym c.is_err.ensures.value ∙ c.if-is_err.true)
    (record {
      scaled = p.auto.scaled ∙ a.scaled;
      codes = t.auto.codes ∙ a.codes;
      factors = t.auto.factors ∙ p.auto.factors ∙ a.factors;
      side = p.auto.side ∙ a.side;
      frame = t.auto.frame ∙ a.frame;
    })
    e.scaled_after e.codes_after e.factors_after
    e.side_after e.frame_after
    ∙ t.ensures ∙ ap (after_level c.args.layout) (made_of_prepared _ _ _ _ _ _ p.ensures.factored p.ensures.rated p.ensures.sided)

pub returns-else-is_err : goal.returns-else-is_err
returns-else-is_err c =
    let p = c.prepare in
    wiped_stays _ _ _ _ _ _ _ (sym c.is_err.ensures.value ∙ c.if-is_err.false)
    ∙ c.level_to_frame-answer.ensures ∙ ap (after_level c.args.layout) (made_of_prepared _ _ _ _ _ _ p.ensures.factored p.ensures.rated p.ensures.sided)
