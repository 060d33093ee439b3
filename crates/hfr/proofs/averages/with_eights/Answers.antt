use mathlib.Core.Path.{◌≡◌, ap}
use Prim.Native.Nat.{ℕ, ◌+◌, ◌*◌}
use native.Mathlib.Omega.{arith}
use Rattle.hfr.proofs.Taken.{eight_none, eight_more, eight_all}
use Rattle.hfr.proofs.averages.with_eights.Goals as goal

pub loop-s-init : goal.loop-s-init
loop-s-init g c = (eight_none _ _ _ _, eight_none _ _ _ _, eight_none _ _ _ _, eight_none _ _ _ _)

pub loop-s-preserved : goal.loop-s-preserved
loop-s-preserved g c =
    let w = c.loop-s.invariant in
    let e = c.with_ones-sums.ensures in
    let k = c.loop-s.s in
    let at : (i : ℕ) → i + k * c.STRIDE.result ≡ i + k * g.B.Bands.STRIDE = λ i. ap (λ (n : ℕ). i + k * n) c.STRIDE.ensures in (
      eight_more _ _ _ _ k _ _ _ (omega arith) (at _) w.0 e.0,
      eight_more _ _ _ _ k _ _ _ (omega arith) (at _) w.1 e.1,
      eight_more _ _ _ _ k _ _ _ (omega arith) (at _) w.2 e.2,
      eight_more _ _ _ _ k _ _ _ (omega arith) (at _) w.3 e.3,
    )

pub returns : goal.returns
returns g c =
    let w = c.loop-s.invariant in
    let k = c.loop-s.s in (
      eight_all _ _ _ _ k _ (omega arith) w.0,
      eight_all _ _ _ _ k _ (omega arith) w.1,
      eight_all _ _ _ _ k _ (omega arith) w.2,
      eight_all _ _ _ _ k _ (omega arith) w.3,
    )
