use mathlib.Core.Path.{ap, ◌∙◌}
use mathlib.Core.List.{List}
use Prim.Native.Nat.{ℕ}
use native.Mathlib.Omega.{arith}
use lib.ListN.{length, get_or}
use Rattle.buffers.proofs.Build.{filled_none, filled_more, filled-all, build-at}
use Rattle.resolutions.proofs.noise_curve.fill_places.Goals as goal

pub loop-b-init : goal.loop-b-init
loop-b-init c = filled_none _ _

pub loop-b-preserved : goal.loop-b-preserved
loop-b-preserved c = filled_more _ c.args.places.now _ _ _ (omega arith) c.loop-b.invariant c.place_of.ensures.0

pub returns : goal.returns
returns c b h =
    let e = filled-all _ c.args.places.now c.loop-b.b (length c.args.factors.now) _ c.requires.1 (omega arith) (omega arith) c.loop-b.invariant in
    ap (λ (xs : List ℕ). get_or xs b 0) e ∙ build-at _ _ b 0 h
