-- `stage::run::prepare` meets its contract. Assumes nothing.
use mathlib.Core.Path.{sym, ap, subst, ◌∙◌}
use Prim.Native.Nat.{◌<◌}
use lib.ListN.{get_or}
use Rattle.rules.specs.Scaling.{all_scaled}
use Rattle.rules.specs.Hfr.{all_side}
use Rattle.factors.proofs.Small.{factors-small}
use Rattle.stage.proofs.run.prepare.Goals as goal

pub scale_spectra-requires : goal.scale_spectra-requires
scale_spectra-requires c =
    let f = c.calculate_scale_factors in record { legal_layout = c.requires.legal_layout; by_index = (λ i. subst (λ fs. get_or fs i 0 < 64) (sym f.ensures) (factors-small _ _ i)); spectra_len = (c.requires.spectra_len.0, f.auto.factors ∙ c.requires.scaled_len.1, c.requires.scaled_len.0) }

pub fill_side-requires : goal.fill_side-requires
fill_side-requires c =
    record { legal_layout = c.requires.legal_layout; spectra_len = (c.requires.spectra_len.0, c.scale_spectra.auto.scaled ∙ c.requires.scaled_len.0); intensities_len = (c.requires.spectra_len.1, c.requires.scaled_len.2) }

pub returns : goal.returns
returns c =
    let f =
    c.calculate_scale_factors.ensures in
    let e = c.scale_spectra.ensures
    ∙ ap (all_scaled c.args.layout c.args.spectra.now) f in
    record { factored = f; rated = e; sided = c.fill_side.ensures ∙ ap (λ sc. all_side c.args.layout c.args.spectra.now sc c.args.intensities.now) e }
