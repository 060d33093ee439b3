-- `stereo_mixing::subframe::bound` meets its contract. Assumes nothing.
use Rattle.std.proofs.Common.{rules, tests}
use Rattle.std.proofs.lemmas.Iterator.{YieldsList-from_range}
use Rattle.std.proofs.lemmas.Iterator.Search.{find_from_yields_List}
use Rattle.std.proofs.lemmas.Iterator.Adapters.{option_map_id}
use mathlib.Core.Bool.{not}
use mathlib.Core.Path.{refl, sym, ◌∙◌}
use lib.Ieee.{nan, le}
use lib.ListN.{get_or}
use Rattle.stereo_mixing.proofs.Searches.{bound_found}
use Rattle.stereo_mixing.proofs.subframe.bound.Goals as goal

pub returns : goal.returns
returns c =
    let t = c.ratio_bounds-bounds.result in
    let e = find_from_yields_List (λ v. not (le c.args.stored (get_or t v nan))) _ _ c.find.result c.find.ensures.ran (YieldsList-from_range 1 13 12 refl refl)
    (λ x b q k. search (rules, tests)) in
    c.unwrap_or.ensures ∙ bound_found _ t _ c.ratio_bounds-bounds.ensures (sym (option_map_id _) ∙ e)
