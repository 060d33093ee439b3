use mathlib.Core.Path.{◌≡◌, refl, ◌∙◌}
use Prim.Native.Nat.{◌-◌}
use native.Mathlib.Omega.{arith}
use lib.IntN.{pos}
use borrow.Author.Rules.{rules}
use Rattle.codes.proofs.Bands.{bands-none, bands_more}
use Rattle.codes.proofs.clear_from.Goals as goal

pub loop-b-init : goal.loop-b-init
loop-b-init c = (refl, bands-none _ _ _ _ (omega arith))

pub loop-b-preserved : goal.loop-b-preserved
loop-b-preserved c =
    let l = c.loop-b in
    let a = c.args in (
      c.clear_band.auto.codes ∙ l.invariant.0,
      bands_more (λ i s. pos 0) a.start a.codes.now (l.b - a.start) _ l.b (omega arith) (omega arith) l.codes _
          l.invariant.1 c.clear_band.ensures,
    )

pub shape_of-codes : goal.shape_of-codes
shape_of-codes c = c.loop-b.invariant.0

pub returns : goal.returns
returns c = let q : c.loop-b.b ≡ 128 = search rules in rw q at c.loop-b.invariant.1
