-- `stereo::encode_mixed` meets its contract. Assumes nothing.
use mathlib.Core.Path.{sym, ap, subst}
use Rattle.factors.specs.Finite.{AllFinite}
use Rattle.rules_stereo.specs.Mixed.{Signal}
use Rattle.stereo.proofs.Fronts.{mixed_run}
use borrow.Author.Rules.{rules}
use Rattle.stereo.proofs.encode_mixed.Goals as goal

pub encode_parts-requires : goal.encode_parts-requires
encode_parts-requires c =
    let m = c.mix_parts in
    let e = ap (λ (t : Signal). t.spectra) m.ensures.front in
    record { legal_layout = c.requires.legal_layout; stage_has_room = search rules; all_finite = subst AllFinite (sym e) c.requires.all_finite }

pub returns : goal.returns
returns c =
    let m = c.mix_parts in
    mixed_run _ _ _ _ _ _ _ _ _ _ m.ensures.whole m.ensures.front
    c.encode_parts.ensures
