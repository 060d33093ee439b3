-- Factors below 64, of a part. Assumes nothing.
use mathlib.Core.List.{List}
use Prim.Native.Nat.{ℕ, ◌<◌}
use native.Mathlib.Omega.{arith}
use lib.ListN.{get_or, take, drop}
use Rattle.buffers.proofs.Most.{part-most}

pub part_small : (a k : ℕ) (xs : List ℕ) → ((i : ℕ) → get_or xs i 0 < 64) → (i : ℕ) → get_or (take k (drop a xs)) i 0 < 64
part_small a k xs h i = omega (arith, part-most 63 a k xs (λ j. omega (arith, h j)) i)
