-- A band's bits at all sixteen resolutions, two to an entry, eight entries a band. Definitions only.
use Rattle.std.specs.Prelude.{◌≡◌, Bool, cond, List, ◌++◌, ℕ, ◌+◌, ◌*◌, ◌/◌, ◌%◌, ◌<◌, T, ltb, ℤ, pos, nat_abs, Float, length, get_or, take, drop}
use Rattle.std.specs.Float.{nan, binary32}
use Rattle.std.specs.Float.Ieee.{fits}
use Rattle.buffers.specs.Walk.{build, blocks, sum_to, every}
use Rattle.floats.specs.Single.{abs_f}
use Rattle.rules.specs.Layout.{coded_count_at, spectrum_length, part}
use Rattle.rules.specs.Estimate.{value_bits, band_bits}
use Rattle.rules.specs.declared.Mode.{Mode}
use Rattle.rules.specs.declared.Layout.{Layout}
use Rattle.within.specs.Within.{Within, within_b}
use Rattle.within.specs.Zones.{reached_f}

-- the eight values of band b of a channel
unfoldable pub eight_of : (scaled : List Float) (band : ℕ) → List Float
eight_of scaled band = take 8 (drop (band * 8) scaled)

-- value s of eight
abbrev pub value_at : (eight : List Float) (s : ℕ) → Float
value_at eight s = get_or eight s nan

-- their magnitudes
unfoldable pub sizes_of : (eight : List Float) → List Float
sizes_of eight = build (λ s. abs_f (value_at eight s)) 8

-- whether each is within the clip
unfoldable pub eight_within : (eight : List Float) → Bool
eight_within eight = every (λ s. within_b (value_at eight s)) 8

-- each within the clip
abbrev pub EachWithin : (eight : List Float) → Type 0
EachWithin eight = (s : ℕ) → s < 8 → Within (value_at eight s)

-- each a single float
abbrev pub EachSingle : (eight : List Float) → Type 0
EachSingle eight = (s : ℕ) → s < 8 → T (fits binary32 (value_at eight s))

-- how many of eight values reach a mark
unfoldable pub eight_reached : (mark : Float) (eight : List Float) → ℕ
eight_reached mark eight = sum_to (λ s. reached_f mark (value_at eight s)) 8

-- the bits of eight values
unfoldable pub eight_bits : (mode : Mode) (resolution : ℕ) (eight : List Float) → ℕ
eight_bits mode resolution eight = sum_to (λ s. value_bits mode resolution (value_at eight s)) 8

-- an entry: the count of k and, eight bits higher, that of k + 8
unfoldable pub entry_of : (mode : Mode) (eight : List Float) (k : ℕ) → ℤ
entry_of mode eight k = pos (eight_bits mode k eight + 256 * eight_bits mode (k + 8) eight)

abbrev pub count_entry : (mode : Mode) (scaled : List Float) (band k : ℕ) → ℤ
count_entry mode scaled band k = pos (band_bits mode scaled band k + 256 * band_bits mode scaled band (k + 8))

-- a resolution's count, of an entry
unfoldable pub count_in : (entry : ℤ) (resolution : ℕ) → ℕ
count_in entry resolution = cond (ltb resolution 8) (nat_abs entry % 256) (nat_abs entry / 256 % 256)

-- a channel's entries: those of its coded bands, and what stood past them
unfoldable pub channel_counts : (mode : Mode) (scaled : List Float) (coded : ℕ) (before : List ℤ) → List ℤ
channel_counts mode scaled coded before = blocks (λ b. build (entry_of mode (eight_of scaled b)) 8) coded ++ drop (coded * 8) before

-- what a channel's entries say of a band, and of its coded bands
abbrev pub BandCounted : (mode : Mode) (scaled : List Float) (counts : List ℤ) (band : ℕ) → Type 0
BandCounted mode scaled counts band = (k : ℕ) → k < 8 → get_or counts (band * 8 + k) (pos 0) ≡ count_entry mode scaled band k

abbrev pub ChannelCounted : (mode : Mode) (scaled : List Float) (coded : ℕ) (counts : List ℤ) → Type 0
ChannelCounted mode scaled coded counts = (b : ℕ) → b < coded → BandCounted mode scaled counts b

-- and those of a frame of every channel's
pub record Counted (l : Layout) (scaled : List Float) (counts : List ℤ) : Type 0 where
  pub long : length counts ≡ spectrum_length l
  pub at : (c : ℕ) → c < l.channels → ChannelCounted l.mode (part 1024 scaled c) (coded_count_at l c) (part 1024 counts c)
