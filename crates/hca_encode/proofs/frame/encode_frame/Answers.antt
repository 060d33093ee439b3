-- `hca_encode::frame::encode_frame` meets its contract. Assumes nothing.
use mathlib.Core.Path.{sym, ◌∙◌, ap, subst}
use Rattle.hca_layout.proofs.Naming.{named_five}
use Rattle.rules.specs.Stage.{StageLeft}
use Rattle.hca_answers.specs.Outcomes.{Small}
use Rattle.hca_encode.proofs.FrameBounds.{stage_small}
use Rattle.hca_encode.proofs.FrameStores.{encode_stores, encode_unnamed, encode_short, encode_done}
use Rattle.hca_encode.proofs.frame.encode_frame.Goals as goal

pub returns-then-not-is_layout : goal.returns-then-not-is_layout
returns-then-not-is_layout c = encode_unnamed _ _ _ _ _ _ (sym c.is_layout.ensures
    ∙ c.if-not-is_layout.true) c.refuse.ensures

pub returns-then-answer-lt4 : goal.returns-then-answer-lt4
returns-then-answer-lt4 c = encode_short _ _ _ _ (sym c.is_layout.ensures ∙ c.if-not-is_layout.false) c.if-answer-lt4.true

pub layout_of-requires : goal.layout_of-requires
layout_of-requires c = named_five _ _ (sym c.is_layout.ensures ∙ c.if-not-is_layout.false)

pub store_stage-requires : goal.store_stage-requires
store_stage-requires c = subst Small (sym (ap (λ (x : StageLeft). x.outcome) c.encode_frame-a.ensures)) (stage_small _ _)

pub returns : goal.returns
returns c =
    encode_done _ _ _ _ (sym c.is_layout.ensures ∙ c.if-not-is_layout.false) _ _ c.layout_of.ensures c.if-answer-lt4.false
    (encode_stores _ _ _ _ _ _ _ _ _ _ c.encode_frame-a.ensures c.store_stage.ensures)
