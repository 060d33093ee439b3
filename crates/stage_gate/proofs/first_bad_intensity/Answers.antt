-- `stage_gate::first_bad_intensity` meets its contract. Assumes nothing.
use Rattle.std.proofs.Common.{rules, tests}
use Rattle.std.proofs.lemmas.Iterator.{YieldsList-from_slice}
use Rattle.std.proofs.lemmas.Iterator.Consumers.{YieldsList-from_enumerate, YieldsList-at}
use Rattle.std.proofs.lemmas.Iterator.Search.{position_from_yields_List}
use Rattle.std.proofs.lemmas.List.FromFn.{length-enumerate_from, get_or-enumerate_from}
use Rattle.std.specs.List.{enumerate_from}
use mathlib.Core.Bool.{Bool, ◌&&◌}
use mathlib.Core.Path.{◌≡◌, ap, ◌∙◌}
use native.Mathlib.Omega.{arith}
use Prim.Native.Nat.{ℕ, ◌+◌, ◌/◌}
use lib.Dec.{ltb}
use Rattle.rules.specs.Layout.{secondary_at}
use Rattle.rules.specs.Stage.{bad_intensity}
use Rattle.stage_gate.specs.Gate.{first_if_any}
use Rattle.stage_gate.proofs.Searches.{position_first}
use Rattle.stage_gate.proofs.first_bad_intensity.Goals as goal

pub returns : goal.returns
unfolding bad_intensity
returns c =
    let l = c.args.layout in
    let xs = c.args.intensities.now in
    let test : ℕ × ℕ → Bool = λ p. ltb 15 p.1 && secondary_at l (p.0 / 8) in
    position_from_yields_List test _ _ _ c.position.ensures.ran
    (YieldsList-from_enumerate (YieldsList-at c.enumerate.ensures.source (YieldsList-from_slice xs cc)) (cc)) (λ x b q k. search (rules, tests))
    ∙ position_first test (0, 0) (enumerate_from 0 xs) (bad_intensity l xs) (λ j k e b.
    let w = length-enumerate_from 0 xs in
    let z : 0 + k ≡ k = omega arith in
    rw (get_or-enumerate_from 0 xs k (0, 0) (omega (arith, b, w)), z) (ap (bad_intensity l xs) (omega (arith, e))))
    ∙ ap (first_if_any (bad_intensity l xs)) (length-enumerate_from 0 xs)
