-- `hca_encode::stereo_frame::encode_stereo_frame` meets its contract. Assumes nothing.
use mathlib.Core.Path.{sym, ◌∙◌, ap, subst}
use Rattle.hca_layout.proofs.Naming.{named_five}
use Rattle.rules_stereo.specs.Stereo.{StereoLeft}
use Rattle.hca_answers.specs.Outcomes.{Small}
use Rattle.hca_encode.proofs.StereoBounds.{stereo-small}
use Rattle.hca_encode.proofs.StereoStores.{stereo_stores, stereo_unnamed, stereo-short, stereo-done}
use Rattle.hca_encode.proofs.stereo_frame.encode_stereo_frame.Goals as goal

pub returns-then-not-is_layout : goal.returns-then-not-is_layout
returns-then-not-is_layout c = stereo_unnamed _ _ _ _ _ _ (sym c.is_layout.ensures
    ∙ c.if-not-is_layout.true) c.refuse.ensures

pub returns-then-answer-lt4 : goal.returns-then-answer-lt4
returns-then-answer-lt4 c = stereo-short _ _ _ _ (sym c.is_layout.ensures ∙ c.if-not-is_layout.false) c.if-answer-lt4.true

pub layout_of-requires : goal.layout_of-requires
layout_of-requires c = named_five _ _ (sym c.is_layout.ensures ∙ c.if-not-is_layout.false)

pub store_stereo-requires : goal.store_stereo-requires
store_stereo-requires c = subst Small (sym (ap (λ (x : StereoLeft). x.outcome) c.encode_stereo_frame-a.ensures)) (stereo-small _ _)

pub returns : goal.returns
returns c =
    stereo-done _ _ _ _ (sym c.is_layout.ensures ∙ c.if-not-is_layout.false) _ _ c.layout_of.ensures c.if-answer-lt4.false
    (stereo_stores _ _ _ _ _ _ _ _ _ _ _ _ c.encode_stereo_frame-a.ensures c.store_stereo.ensures)
