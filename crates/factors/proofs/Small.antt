-- Every factor is below 64. Assumes nothing.
use mathlib.Core.List.{List}
use Prim.Native.Nat.{ℕ, ◌<◌}
use native.Mathlib.Omega.{arith}
use lib.Ieee.{Float}
use lib.ListN.{get_or}
use Rattle.buffers.specs.Walk.{AtMost}
use Rattle.buffers.proofs.Most.{build-most, blocks-most}
use Rattle.rules.specs.Layout.{coded_count_at, part}
use Rattle.rules.specs.Factor.{channel_factors, all_factors}
use Rattle.rules.specs.declared.Layout.{Layout}
use Rattle.rules.proofs.Made.{band-held}

factors-most : (l : Layout) (xs : List Float) → AtMost 63 (all_factors l xs)
unfolding all_factors channel_factors
factors-most l xs = blocks-most 63 _ (λ c. build-most 63 _ (band-held (part 1024 xs c) (coded_count_at l c)) 128) l.channels

pub factors-small : (l : Layout) (xs : List Float) (i : ℕ) → get_or (all_factors l xs) i 0 < 64
factors-small l xs i = omega (arith, factors-most l xs i)
