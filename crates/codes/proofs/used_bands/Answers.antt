use mathlib.Core.Path.{◌≡◌, sym, subst, ◌∙◌}
use mathlib.Core.List.{List}
use Prim.Native.Nat.{ℕ, ◌<◌, ◌+◌, ◌-◌, ◌*◌}
use native.Mathlib.Omega.{arith}
use lib.ListN.{get_or, get_or-eq_default, take, drop}
use lib.Seq.{get_or-take, get_or-drop}
use Rattle.std.specs.Prelude.{sum}
use Rattle.buffers.proofs.Most.{part-most}
use Rattle.rules.proofs.Cuts.{by_order}
use Rattle.rules.proofs.LentRows.{lent-long}
use Rattle.codes.specs.Bands.{SilentFrom}
use Rattle.codes.proofs.Bands.{sum-none, sum_fits}
use Rattle.codes.proofs.used_bands.Goals as goal

-- so many more
further : (rs : List ℕ) (at n : ℕ) → SilentFrom (at + n) rs → sum (take n (drop at rs)) ≡ 0 → SilentFrom at rs
further rs at n q e i h =
    by_order i (at + n)
    (λ lt.
    let k : at + (i - at) ≡ i = omega arith in
    let part = get_or-take n (drop at rs) (i - at) 0 (omega arith) ∙ get_or-drop at rs (i - at) 0 in
    subst (λ j. get_or rs j 0 ≡ 0) k (sym part ∙ sum-none _ e (i - at)))
    (λ ge. q i ge)

pub loop-n-init : goal.loop-n-init
loop-n-init c i h = get_or-eq_default c.args.resolutions.now 0 (omega (arith, c.requires.1))

pub sum_of_eight-requires : goal.sum_of_eight-requires
sum_of_eight-requires c =
    let at = (c.loop-n.n - 1) * 8 in
    let below : c.loop-n.n - 1 < 16 = omega (arith, c.loop-n-test.true, c.loop-n.auto.n) in
    sum_fits _ (part-most 15 at (at + 8 - at) c.args.resolutions.now c.requires.0) (lent-long 8 _ 16 _ below c.requires.1)

pub loop-n-preserved : goal.loop-n-preserved
loop-n-preserved c =
    let at = (c.loop-n.n - 1) * 8 in
    further c.args.resolutions.now at (at + 8 - at) (λ i h. c.loop-n.invariant i (omega (arith, c.loop-n-test.true)))
    (sym c.sum_of_eight.ensures ∙ c.if-sum_of_eight-ne0.false)
