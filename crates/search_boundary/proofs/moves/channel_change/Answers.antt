use mathlib.Core.Path.{◌≡◌, refl, ap, ◌∙◌}
use Prim.Native.Nat.{ℕ, ◌≤◌, ◌<◌, ◌+◌, ◌*◌, min}
use native.Mathlib.Omega.{arith}
use borrow.Author.Rules.{rules}
use Rattle.rules.specs.Estimate.{channel_bits}
use Rattle.rules.proofs.Cuts.{by_order}
use Rattle.search_boundary.proofs.Passed.{passes, all_passed}
use Rattle.search_boundary.proofs.moves.channel_change.Goals as goal

-- A band's turn, from x to z bits over y at the start: what it adds keeps the two sums even and in their bounds.
module _ (x y z rise fall coarse fine b : ℕ) (even : x + fall ≡ y + rise) (passed : z + coarse ≡ x + fine) (low : rise ≤ 96 * b)
    (short : fall ≤ 96 * b) where
  changed : (u v : ℕ) → u ≡ fine → v ≡ coarse → u ≤ 96 → v ≤ 96
      → (rise + u ≤ 96 * (b + 1)) × (fall + v ≤ 96 * (b + 1)) × (z + (fall + v) ≡ y + (rise + u))
  changed u v p q h k = (omega arith, omega arith, omega arith)

coded-band : (b to coded end : ℕ) → b < end → end ≡ min to coded → b < coded
coded-band b to coded end h e = omega arith

pub loop-b-init : goal.loop-b-init
loop-b-init c = (refl, search rules, search rules, search rules)

pub band_bits-rise-requires : goal.band_bits-rise-requires
band_bits-rise-requires c =
    let b = c.loop-b.b in record { stretched = (c.requires.stretched.0, c.requires.stretched.1 b (coded-band _ _ _ _ c.loop-b-test.true c.min-b-end.ensures)); counts_len = (c.requires.counts_len.0, search rules, c.requires.stretched.2 b, search rules) }

pub band_bits-fall-requires : goal.band_bits-fall-requires
band_bits-fall-requires c =
    let b = c.loop-b.b in record { stretched = (c.requires.stretched.0, c.requires.stretched.1 b (coded-band _ _ _ _ c.loop-b-test.true c.min-b-end.ensures)); counts_len = (c.requires.counts_len.0, search rules, c.requires.stretched.2 b, search rules) }

pub loop-b-preserved : goal.loop-b-preserved
loop-b-preserved c =
    let a = c.args in
    let b = c.loop-b.b in
    let i = c.loop-b.invariant in
    let k = coded-band _ _ _ _ c.loop-b-test.true c.min-b-end.ensures in
    let p = passes a.layout a.scaled.now a.factors.now a.coded a.level b k in
    let turn = changed _ _ _ _ _ _ _ b i.0 p i.2 i.3 _ _ c.band_bits-rise.ensures.0 c.band_bits-fall.ensures.0
    c.band_bits-rise.ensures.1 c.band_bits-fall.ensures.1 in
    (turn.2, search rules, turn.0, turn.1)

pub returns : goal.returns
returns c =
    let a = c.args in
    let e = c.loop-b.invariant.0 in
    let same : channel_bits a.layout a.scaled.now a.factors.now a.coded a.level a.to
    ≡ channel_bits a.layout a.scaled.now a.factors.now a.coded a.level c.loop-b.b =
    by_order c.loop-b.b a.to
    (λ lt. all_passed a.layout a.scaled.now a.factors.now a.coded a.level _ _ (search rules) (search rules))
    (λ ge. let q : a.to ≡ c.loop-b.b = omega arith in ap (channel_bits a.layout a.scaled.now a.factors.now a.coded a.level) q) in
    (ap (λ k. k + c.loop-b.fall) same ∙ e, search rules, search rules)
