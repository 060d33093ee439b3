-- `quantizer::counts::wide_bits` meets its contract. Assumes nothing.
use mathlib.Core.Path.{ap, ap₂, ◌∙◌}
use mathlib.Core.Bool.{Bool, cond}
use Prim.Native.Nat.{ℕ, ◌+◌, ◌≤◌}
use native.Mathlib.Omega.{arith}
use lib.Ieee.{le}
use borrow.Author.Tests.{le-ltb}
use Rattle.rules.specs.Estimate.{value_bits}
use Rattle.quantizer.proofs.Entries.{bits-le}
use Rattle.quantizer.proofs.counts.wide_bits.Lts as lts
use Rattle.quantizer.proofs.counts.wide_bits.Tie as tie
use Rattle.quantizer.proofs.counts.wide_bits.Reads as reads
use Rattle.quantizer.proofs.counts.wide_bits.Goals as goal

-- at most 11 and 1
some : (c : lts.After-reached tie.the-claims reads.Pre reads.Post) → c.args.bits + c.reached.result ≤ 12
some c =
    let h : c.args.bits ≤ 11 = rw c.requires.2 (bits-le c.args.r c.requires.1) in
    omega (arith, c.reached.ensures.1)

pub overflow_add-result : goal.overflow_add-result
overflow_add-result c = let h = some c in omega arith

pub returns : goal.returns
unfolding value_bits
returns c =
    let tested = ap₂ le c.requires.3 c.magnitude.ensures in
    (rw (le-ltb _ _ c.requires.0) (ap₂ (λ (a b : ℕ). a + b) c.requires.2 (c.reached.ensures.0 ∙ ap (λ (t : Bool). cond t 1 0) tested)), some c)
