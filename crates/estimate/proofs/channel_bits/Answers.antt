use mathlib.Core.Path.{◌≡◌, ap, ◌∙◌}
use native.Mathlib.Omega.{arith}
use native.Mathlib.Nat.{add-zero}
use borrow.Author.Rules.{rules}
use Rattle.rules.specs.Estimate.{channel_bits}
use Rattle.estimate.proofs.Bands.{one_band_more}
use Rattle.estimate.proofs.channel_bits.Goals as goal

pub loop-b-init : goal.loop-b-init
loop-b-init c = (search rules, add-zero _)

pub band_bits_at-sum-requires : goal.band_bits_at-sum-requires
band_bits_at-sum-requires c =
    let b = c.loop-b.b in record { stretched = (c.requires.stretched.0, c.requires.stretched.1 b c.loop-b-test.true); counts_len = (c.requires.counts_len.0, search rules, c.requires.stretched.2 _, c.requires.places_len.1 _ (search rules), c.requires.counts_len.4) }

pub loop-b-preserved : goal.loop-b-preserved
loop-b-preserved c =
    let a = c.args in
    let more = one_band_more a.layout a.scaled.now a.factors.now a.noise c.loop-b.b in
    let e = c.loop-b.invariant.1 in
    (omega (arith, c.band_bits_at-sum.ensures.1), omega (arith, more, e, c.band_bits_at-sum.ensures.0))

pub returns : goal.returns
returns c =
    let a = c.args in
    let q : c.loop-b.b ≡ a.to = omega arith in
    (c.loop-b.invariant.1 ∙ ap (λ n. channel_bits a.layout a.scaled.now a.factors.now n a.noise 0) q, search rules)
