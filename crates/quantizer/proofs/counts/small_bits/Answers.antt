-- `quantizer::counts::small_bits` meets its contract, by `counted`. Assumes nothing.
use mathlib.Core.Path.{◌≡◌, sym, ap₂, ◌∙◌}
use Prim.Native.Nat.{ℕ, ◌+◌, ◌≤◌}
use native.Mathlib.Omega.{arith}
use lib.Ieee.{of_bits}
use Rattle.rules.specs.Estimate.{value_bits}
use Rattle.quantizer.proofs.Reaching.{value_counted, high_le}
use Rattle.quantizer.proofs.counts.small_bits.Lts as lts
use Rattle.quantizer.proofs.counts.small_bits.Tie as tie
use Rattle.quantizer.proofs.counts.small_bits.Reads as reads
use Rattle.quantizer.proofs.counts.small_bits.Goals as goal

-- low and high are at most 4
least : (c : lts.After-reached tie.the-claims reads.Pre reads.Post) → c.args.m.low + c.reached.result ≤ 4
least c =
    let h = high_le c.args.mode c.args.r c.args.m c.requires.0 c.requires.1 in
    omega (arith, c.reached.ensures.1)

some : (c : lts.After-reached2 tie.the-claims reads.Pre reads.Post) → c.args.m.low + c.reached.result + c.reached-2.result ≤ 5
some c = let h = least c.before.before in omega (arith, c.reached-2.ensures.1)

pub overflow_add-most : goal.overflow_add-most
overflow_add-most c = let h = least c.before in omega arith

pub overflow_add-most-2 : goal.overflow_add-most-2
overflow_add-most-2 c = let h = some c in omega arith

-- what was added is the value's bits and what is taken off
module _ (c : lts.After-reached4 tie.the-claims reads.Pre reads.Post) where
  abbrev bits : ℕ
  bits = let a = c.args in value_bits a.mode a.r a.scaled

  whole : c.args.m.low + c.reached.result + c.reached-2.result
      ≡ bits + (c.reached-3.result + c.reached-4.result)
  unfolding of_bits
  whole =
      ap₂ (λ (a b : ℕ). c.args.m.low + a + b) c.reached.ensures.0 c.reached-2.ensures.0
      ∙ value_counted c.args.mode c.args.r c.args.scaled c.args.m c.requires.0 c.requires.1
      ∙ sym (ap₂ (λ (a b : ℕ). bits + (a + b)) c.reached-3.ensures.0 c.reached-4.ensures.0)

pub overflow_add-result : goal.overflow_add-result
overflow_add-result c = let h = some c.before.before in let e = whole c in omega arith

pub overflow_sub-result : goal.overflow_sub-result
overflow_sub-result c = let e = whole c in omega arith

pub returns : goal.returns
returns c = let h = some c.before.before in let e = whole c in (omega arith, omega arith)
