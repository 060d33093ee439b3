use mathlib.Core.Path.{◌≡◌, refl, ◌∙◌}
use native.Mathlib.Omega.{arith}
use borrow.Author.Rules.{rules}
use Rattle.rules.specs.Code.{code_at}
use Rattle.codes.proofs.Bands.{bands-none, bands_more}
use Rattle.codes.proofs.lay_codes.Goals as goal

pub loop-b-init : goal.loop-b-init
loop-b-init c = (refl, bands-none _ _ _ _ refl)

pub band_codes-requires : goal.band_codes-requires
band_codes-requires c =
    let l = c.loop-b in
    record { resolution_bound = (c.requires.at_most.0 l.b, search rules, c.requires.at_most.1); scaled_len = (c.requires.resolutions_len.1, l.invariant.0 ∙ c.requires.resolutions_len.2) }

pub loop-b-preserved : goal.loop-b-preserved
unfolding code_at
loop-b-preserved c =
    let l = c.loop-b in
    let a = c.args in (
      c.band_codes.auto.codes ∙ l.invariant.0,
      bands_more (λ i s. code_at a.mode a.resolutions.now a.scaled.now s i) 0 a.codes.now l.b _ l.b refl (omega arith) l.codes _
          l.invariant.1 c.band_codes.ensures,
    )

pub shape_of-codes : goal.shape_of-codes
shape_of-codes c = c.loop-b.invariant.0

pub returns : goal.returns
returns c =
    let q : c.loop-b.b ≡ c.args.n = search rules in
    rw q at c.loop-b.invariant.1
