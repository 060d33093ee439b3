-- `hfr::fill_scales` meets its contract. Assumes nothing.
use mathlib.Core.Path.{ap, ◌∙◌}
use native.Mathlib.Omega.{arith}
use borrow.Author.Rules.{rules}
use Rattle.rules.specs.Hfr.{scale_side}
use Rattle.hfr.specs.Sums.{scale_at, four_set}
use Rattle.hfr.proofs.Side.{eight_set}
use Rattle.hfr.proofs.fill_scales.Goals as goal

pub four_scales-requires-2 : goal.four_scales-requires-2
four_scales-requires-2 c =
    let long = c.requires.spectra_len in
    record { legal_layout = c.requires.legal_layout; spectra_len = (long.0, long.1, search (rules, long.2), omega arith) }

pub returns : goal.returns
unfolding scale_side scale_at
returns c =
    let a = c.args in
    let f = scale_at a.layout a.spectra.now a.scaled.now in
    c.four_scales-2.ensures ∙ ap (four_set f 4) c.four_scales.ensures ∙ eight_set f a.side.now c.requires.spectra_len.2
