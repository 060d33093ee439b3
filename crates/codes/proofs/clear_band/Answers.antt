use mathlib.Core.Path.{◌≡◌, refl, sym, ◌∙◌}
use lib.IntN.{pos}
use lib.ListN.{length-set}
use borrow.Author.Rules.{rules}
use Rattle.codes.proofs.Bands.{band-none, band_more}
use Rattle.codes.proofs.clear_band.Goals as goal

pub loop-s-init : goal.loop-s-init
loop-s-init c = (refl, band-none _ _ _)

pub loop-s-preserved : goal.loop-s-preserved
loop-s-preserved c =
    let a = c.args in (
      length-set c.loop-s.codes _ _ ∙ c.loop-s.invariant.0,
      rw c.loop-s.invariant.1 (sym (band_more (λ i. pos 0) a.band a.codes.now c.loop-s.s)),
    )

pub shape_of-codes : goal.shape_of-codes
shape_of-codes c = c.loop-s.invariant.0

pub returns : goal.returns
returns c = let q : c.loop-s.s ≡ 8 = search rules in rw q at c.loop-s.invariant.1
