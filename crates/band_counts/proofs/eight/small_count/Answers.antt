-- `band_counts::eight::small_count` meets its contract, by `eight_zones`. Assumes nothing.
use mathlib.Core.Path.{◌≡◌, sym, ap, ap₂, ◌∙◌}
use Prim.Native.Nat.{◌+◌, ◌*◌, ◌≤◌}
use native.Mathlib.Omega.{arith}
use Rattle.band_counts.specs.Counts.{eight_reached, eight_bits}
use Rattle.band_counts.proofs.Zones.{eight_zones, most-le}
use Rattle.band_counts.proofs.eight.small_count.Lts as lts
use Rattle.band_counts.proofs.eight.small_count.Tie as tie
use Rattle.band_counts.proofs.eight.small_count.Reads as reads
use Rattle.band_counts.proofs.eight.small_count.Goals as goal

pub overflow_add-more : goal.overflow_add-more
overflow_add-more c = omega (arith, most-le c.args.k c.requires.k_bound, c.most_of.ensures, c.eight_reached.ensures.1)

-- what was added is the values' bits and what is taken off
module _ (c : lts.After-eight_reached2 tie.the-claims reads.Pre reads.Post tie.handed_clauses) where
  some : c.most_of.result + c.eight_reached.result ≤ 40
  some = omega (arith, most-le c.args.k c.requires.k_bound, c.most_of.ensures, c.eight_reached.ensures.1)

  whole : c.most_of.result + c.eight_reached.result
      ≡ eight_bits c.args.mode c.args.k c.args.e + (c.eight_reached-2.result + c.drop_of-drop.result * c.args.clips)
  whole =
      ap₂ ◌+◌ c.most_of.ensures (c.eight_reached.ensures.0 ∙ ap (λ x. eight_reached x c.args.e) c.high_of.ensures)
      ∙ eight_zones c.args.mode c.args.k c.requires.k_bound c.args.e c.requires.each_within.0 c.requires.each_within.1
      ∙ sym (ap₂ (λ a b. eight_bits c.args.mode c.args.k c.args.e + (a + b))
      (c.eight_reached-2.ensures.0 ∙ ap (λ x. eight_reached x c.args.e) c.low_of.ensures)
      (ap₂ ◌*◌ c.drop_of-drop.ensures c.requires.each_within.2))

pub overflow_mul-result : goal.overflow_mul-result
overflow_mul-result c = let e = whole c in let h = some c in omega arith

pub overflow_add-result : goal.overflow_add-result
overflow_add-result c = let e = whole c in let h = some c in omega arith

pub overflow_sub-result : goal.overflow_sub-result
overflow_sub-result c = let e = whole c in omega arith

pub returns : goal.returns
returns c = let e = whole c in let h = some c in (omega arith, omega arith)
