-- `stage_gate::first_bad_spectrum` meets its contract: no part has one, or the first that has one, and which in the list that begins there. Assumes nothing.
use Rattle.std.proofs.Common.{rules, tests}
use Rattle.std.proofs.lemmas.Iterator.{YieldsList-from_slice}
use Rattle.std.proofs.lemmas.Iterator.Search.{position_from_yields_List}
use mathlib.Core.Bool.{not}
use mathlib.Core.Path.{ap, ◌∙◌}
use native.Mathlib.Omega.{arith}
use Prim.Native.Nat.{◌*◌}
use lib.Ieee.{nan}
use lib.Ieee.Scale.{finite}
use lib.ListN.{drop}
use Rattle.rules.specs.Stage.{bad_spectrum}
use Rattle.stage_gate.proofs.Searches.{position_first}
use Rattle.stage_gate.proofs.Parts.{parts_none, parts_some, first_behind, some_behind, lent_behind}
use Rattle.stage_gate.proofs.first_bad_spectrum.Goals as goal

pub returns-in_err-part : goal.returns-in_err-part
returns-in_err-part c =
    let e = c.chunks.ensures in
    c.from_residual.ensures
    ∙ parts_none _ _ c.chunks.result c.args.spectra.now e.size e.rest e.runs (λ x b q k. search (rules, tests)) c.in_err-part.ensures.runs

pub returns-in_err-i : goal.returns-in_err-i
unfolding bad_spectrum
returns-in_err-i c =
    let e = c.chunks.ensures in
    let xs = c.args.spectra.now in
    let some = parts_some _ _ c.chunks.result xs e.size e.rest e.runs (λ x b q k. search (rules, tests)) c.in_ok-part.part c.in_ok-part.ensures.runs in
    let at = c.in_ok-part.part * 1024 in
    let ys = drop at xs in
    absurd (some_behind ys some.0
    (position_from_yields_List (λ x. not (finite x)) _ _ _ c.in_err-i.ensures.ran (YieldsList-from_slice ys (c.iter.ensures.rest ∙ lent_behind at xs))
    (λ x b q k. search (rules, tests))
    ∙ position_first _ nan ys _ (λ j k e b. ap (bad_spectrum ys) (omega (arith, e)))))

pub returns : goal.returns
unfolding bad_spectrum
returns c =
    let e = c.chunks.ensures in
    let xs = c.args.spectra.now in
    let some = parts_some _ _ c.chunks.result xs e.size e.rest e.runs (λ x b q k. search (rules, tests)) c.in_ok-part.part c.in_ok-part.ensures.runs in
    let at = c.in_ok-part.part * 1024 in
    let ys = drop at xs in
    first_behind xs c.in_ok-part.part some.2 (omega (arith, some.1)) c.in_ok-i.i
    (position_from_yields_List (λ x. not (finite x)) _ _ _ c.in_ok-i.ensures.ran (YieldsList-from_slice ys (c.iter.ensures.rest ∙ lent_behind at xs))
    (λ x b q k. search (rules, tests))
    ∙ position_first _ nan ys _ (λ j k e b. ap (bad_spectrum ys) (omega (arith, e))))
