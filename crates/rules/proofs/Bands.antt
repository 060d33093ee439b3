-- The resolutions of a channel's 128 bands, and of a frame's: lengths, and where a band's stands. Assumes nothing.
use mathlib.Core.Path.{◌≡◌, ◌∙◌}
use mathlib.Core.List.{List}
use Prim.Native.Nat.{ℕ, ◌≤◌, ◌<◌}
use native.Mathlib.Omega.{arith}
use borrow.Author.Tests.{lt-ltb, le-ltb}
use lib.ListN.{length, get_or, take}
use Rattle.buffers.proofs.Build.{length-build, build-at}
use Rattle.buffers.proofs.Blocks.{length-blocks}
use Rattle.rules.specs.Layout.{coded_count_at, factor_length, part}
use Rattle.rules.specs.Resolution.{resolution_at, band_resolution, channel_resolutions, all_resolutions}
use Rattle.rules.specs.declared.Layout.{Layout}
use Rattle.rules.proofs.Cuts.{blocks-same, block_part, part-of-front}

module _ (l : Layout) (level boundary : ℕ) (fs : List ℕ) (coded : ℕ) where
  pub channel_size : length (channel_resolutions l level boundary fs coded) ≡ 128
  unfolding channel_resolutions
  channel_size = length-build (band_resolution l level boundary fs coded) 128

  pub resolution-of-band : (b : ℕ) → b < 128 → get_or (channel_resolutions l level boundary fs coded) b 0 ≡ band_resolution l level boundary fs coded b
  unfolding channel_resolutions
  resolution-of-band b h = build-at (band_resolution l level boundary fs coded) 128 b 0 h

  -- of a coded band, and past the coded count
  pub coded-band : (b : ℕ) → b < 128 → b < coded → get_or (channel_resolutions l level boundary fs coded) b 0 ≡ resolution_at l level boundary fs b
  unfolding band_resolution
  coded-band b h g = resolution-of-band b h ∙ rw (lt-ltb b coded g)

  pub blank-band : (b : ℕ) → b < 128 → coded ≤ b → get_or (channel_resolutions l level boundary fs coded) b 0 ≡ 0
  unfolding band_resolution
  blank-band b h g = resolution-of-band b h ∙ rw (le-ltb b coded g)

-- channel c's, in a frame
abbrev pub resolutions_at : (l : Layout) (level boundary : ℕ) (factors : List ℕ) (channel : ℕ) → List ℕ
resolutions_at l level boundary factors c = channel_resolutions l level boundary (part 128 factors c) (coded_count_at l c)

module _ (l : Layout) (level boundary : ℕ) (factors : List ℕ) where
  pub resolutions-long : length (all_resolutions l level boundary factors) ≡ factor_length l
  unfolding all_resolutions
  resolutions-long = length-blocks (resolutions_at l level boundary factors) 128 l.channels (λ c _. channel_size l _ _ _ _) l.channels (omega arith)

  pub resolutions-part : (c : ℕ) → c < l.channels → part 128 (all_resolutions l level boundary factors) c ≡ resolutions_at l level boundary factors c
  unfolding all_resolutions
  resolutions-part c h = block_part (resolutions_at l level boundary factors) 128 l.channels c (λ i _. channel_size l _ _ _ _) h

  -- only the stated length is looked at
  pub resolutions-front : all_resolutions l level boundary (take (factor_length l) factors) ≡ all_resolutions l level boundary factors
  unfolding all_resolutions
  resolutions-front = blocks-same _ _ l.channels (λ c g. rw (part-of-front 128 l.channels c factors g))
