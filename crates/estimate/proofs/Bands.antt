-- A channel's bits at boundary 0, band by band. Assumes nothing.
use mathlib.Core.Path.{◌≡◌, ◌∙◌}
use mathlib.Core.List.{List}
use Prim.Native.Nat.{ℕ, ◌+◌, zero-le}
use native.Mathlib.Omega.{arith}
use borrow.Author.Tests.{le-ltb}
use lib.Ieee.{Float}
use lib.ListN.{get_or}
use Rattle.buffers.proofs.Scan.{sum-none, sum_more}
use Rattle.rules.specs.Resolution.{noise_at, resolution, resolution_at}
use Rattle.rules.specs.Estimate.{band_bits, channel_bits}
use Rattle.rules.specs.declared.Layout.{Layout}

module _ (l : Layout) (sc : List Float) (fs : List ℕ) (level : ℕ) where
  pub no_band : channel_bits l sc fs 0 level 0 ≡ 0
  unfolding channel_bits
  no_band = sum-none _

  pub one_band_more : (b : ℕ)
      → channel_bits l sc fs (b + 1) level 0 ≡ channel_bits l sc fs b level 0 + band_bits l.mode sc b (resolution l level (get_or fs b 0))
  unfolding channel_bits resolution_at noise_at
  one_band_more b = sum_more _ b ∙ rw (le-ltb b 0 zero-le)

  -- what is counted from the first band on
  pub from_first : (r y : ℕ) → channel_bits l sc fs 0 level 0 + r ≡ y → r ≡ y
  from_first r y e = omega (arith, no_band, e)
