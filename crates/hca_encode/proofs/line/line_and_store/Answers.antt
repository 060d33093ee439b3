-- `hca_encode::line::line_and_store` meets its contract. Assumes nothing.
use mathlib.Core.Path.{sym, subst}
use Rattle.rules_line.specs.Line.{LineLeft}
use Rattle.hca_encode.specs.EncodeLine.{LineSmall}
use Rattle.hca_encode.proofs.LineBounds.{line_stores}
use Rattle.hca_encode.proofs.LineStores.{line_stores_so}
use Rattle.hca_encode.proofs.line.line_and_store.Goals as goal

pub store_line-requires : goal.store_line-requires
store_line-requires g c =
    subst (λ (x : LineLeft). LineSmall x.outcome x.index) (sym c.encode_all-a.ensures.over) (line_stores _ g.met.S.SingleCall.bounded _ _ _)

pub returns-clause-told : goal.returns-clause-told
returns-clause-told g c =
    line_stores_so _ _ _ _ _ _ _ _ _ _ _ _ _ _ _ _ _ c.encode_all-a.ensures.over c.store_line.ensures.answered c.store_line.ensures.shown
    c.store_tally.ensures
