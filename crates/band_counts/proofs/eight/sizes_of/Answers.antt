use mathlib.Core.Path.{◌≡◌, refl, subst, sym}
use Prim.Native.Nat.{◌<◌}
use mathlib.Core.Logic.{⊎_elim}
use native.Mathlib.Nat.{eq-or-lt_of_le}
use native.Mathlib.Omega.{arith}
use lib.Dec.{T}
use lib.Ieee.{binary32, fits}
use Rattle.buffers.proofs.Build.{filled_none, filled_more, filled-all}
use Rattle.band_counts.specs.Counts.{sizes_of, value_at}
use Rattle.band_counts.proofs.eight.sizes_of.Goals as goal

pub loop-i-init : goal.loop-i-init
loop-i-init c = (filled_none _ _, λ s l. absurd (omega arith))

pub loop-i-preserved : goal.loop-i-preserved
loop-i-preserved c =
    let l = c.loop-i in
    let is = c.size.ensures in (
      filled_more _ _ l.i l.sizes _ (omega arith) l.invariant.0 is.0,
      λ s h. ⊎_elim (λ (e : s ≡ l.i). subst (λ i. T (fits binary32 (value_at c.args.e i))) (sym e) is.1) (λ (g : s < l.i). l.invariant.1 s g)
          (eq-or-lt_of_le (omega arith)),
    )

pub returns : goal.returns
unfolding sizes_of
returns c =
    let l = c.loop-i in
    (filled-all _ _ l.i 8 l.sizes refl (omega arith) (omega arith) l.invariant.0, λ s h. l.invariant.1 s (omega arith))
