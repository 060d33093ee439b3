-- `stage_gate::has_bad_spectrum` meets its contract. Assumes nothing.
use Rattle.std.proofs.Common.{rules, tests}
use Rattle.std.proofs.lemmas.Iterator.{YieldsList-from_slice}
use Rattle.std.proofs.lemmas.Iterator.Consumers.{fold_from_yields_List}
use mathlib.Core.Bool.{not, ◌||◌}
use mathlib.Core.Path.{ap, ◌∙◌}
use native.Mathlib.Omega.{arith}
use lib.Ieee.{nan}
use lib.Ieee.Scale.{finite}
use Rattle.rules.specs.Stage.{bad_spectrum}
use Rattle.stage_gate.proofs.Searches.{fold_found}
use Rattle.stage_gate.proofs.has_bad_spectrum.Goals as goal

pub returns : goal.returns
unfolding bad_spectrum
returns c =
    let xs = c.args.spectra.now in
    fold_from_yields_List _ (λ found x. found || not (finite x)) _ _ c.fold.ensures.ran (YieldsList-from_slice xs cc)
    (λ a x b q k. search (rules, tests))
    ∙ fold_found (λ x. not (finite x)) nan xs _ (λ j k e b. ap (bad_spectrum xs) (omega (arith, e)))
