-- Document 01, **Legal record**: a record, when it is legal, and how it lies in the lent buffers.
use Rattle.std.specs.Prelude.{◌≡◌, List, [], ◌++◌, map, Bool, cond, ◌&&◌, ℕ, ◌+◌, ◌*◌, ◌^◌, ◌≤◌, ◌<◌, leb, ltb, eqb, ℤ, pos, nat_abs, get_or, take, replicate}
use Rattle.buffers.specs.Walk.{build, blocks, every}
use Rattle.rules.specs.Format.{Each, times}
use Rattle.rules.specs.Layout.{kind_at, kinds_of, coded_count, coded_count_at, side_count, side_count_at, side_width, part}
use Rattle.rules.specs.Resolution.{resolution_at, resolutions_of, all_resolutions}
use Rattle.rules.specs.Code.{code_limit}
use Rattle.rules.specs.declared.ChannelType.{ChannelType}
use Rattle.rules.specs.declared.Layout.{Layout}

-- a channel's coded factors and its side values
pub record Chan : Type 0 where
  pub factors : List ℕ
  pub side : List ℕ

pub record Rec : Type 0 where
  pub level : ℕ
  pub boundary : ℕ
  pub chans : List Chan
  -- by subframe, channel and coded band: the frame's order
  pub codes : List (List (List ℤ))

-- Level 0..511, boundary 0..127 (request A6): whatever their fields hold
pub record LegalHead (level boundary : ℕ) : Type 0 where
  pub levels : level ≤ 511
  pub boundaries : boundary ≤ 127

-- code magnitude at most r at resolution r below 8, else the clamp of **Code**
unfoldable pub code_range : (resolution : ℕ) → ℕ
code_range resolution = cond (ltb resolution 8) resolution (code_limit resolution)

abbrev pub LegalCode : (resolution : ℕ) (code : ℤ) → Type 0
LegalCode resolution code = nat_abs code ≤ code_range resolution

-- factors and HFR scales 0..63; intensities 0..15
pub record LegalChan (l : Layout) (k : ChannelType) (c : Chan) : Type 0 where
  pub factors : Each (λ _ f. f < 64) (times (coded_count l k)) c.factors
  pub side : Each (λ _ v. v < 2 ^ side_width k) (times (side_count l k)) c.side

-- the resolutions of each channel's coded bands
abbrev pub resolutions : (l : Layout) (level boundary : ℕ) (chans : List Chan) → List (List ℕ)
resolutions l level boundary chans = map (λ c. resolutions_of l level boundary c.factors) chans

pub record Legal (l : Layout) (r : Rec) : Type 0 where
  pub head : LegalHead r.level r.boundary
  pub chans : Each (LegalChan l) (kinds_of l) r.chans
  pub codes : Each (λ _. Each (Each LegalCode) (resolutions l r.level r.boundary r.chans)) (times 8) r.codes

-- THE RECORD THAT LIES IN BUFFERS of document 01's lengths: factors C x 128, side C x 8, codes C x 1,024 by channel, subframe, band
-- channel c, of its own 128 factors and 8 side values, and of all channels'
abbrev pub chan_in : (l : Layout) (channel : ℕ) (factors side : List ℕ) → Chan
chan_in l channel factors side = record { factors = take (coded_count_at l channel) factors; side = take (side_count_at l channel) side }

abbrev pub chan_of : (l : Layout) (factors side : List ℕ) (channel : ℕ) → Chan
chan_of l factors side channel = chan_in l channel (part 128 factors channel) (part 8 side channel)

-- its codes in subframe s
abbrev pub codes_in : (l : Layout) (codes : List ℤ) (subframe channel : ℕ) → List ℤ
codes_in l codes subframe channel = take (coded_count_at l channel) (part 128 (part 1024 codes channel) subframe)

unfoldable pub rec_of : (l : Layout) (level boundary : ℕ) (factors side : List ℕ) (codes : List ℤ) → Rec
rec_of l level boundary factors side codes = record {
  level = level;
  boundary = boundary;
  chans = build (chan_of l factors side) l.channels;
  codes = build (λ s. build (codes_in l codes s) l.channels) 8;
}

-- AND ITS STORING THERE: everything unwritten is 0
abbrev pub pad : {A : Type 0} (blank : A) (n : ℕ) (xs : List A) → List A
pad blank n xs = take n (xs ++ replicate n blank)

abbrev pub no_chan : Chan
no_chan = record { factors = []; side = [] }

unfoldable pub store_factors : (l : Layout) (r : Rec) → List ℕ
store_factors l r = blocks (λ c. pad 0 128 (get_or r.chans c no_chan).factors) l.channels

unfoldable pub store_side : (l : Layout) (r : Rec) → List ℕ
store_side l r = blocks (λ c. pad 0 8 (get_or r.chans c no_chan).side) l.channels

unfoldable pub store_codes : (l : Layout) (r : Rec) → List ℤ
store_codes l r = blocks (λ c. blocks (λ s. pad (pos 0) 128 (get_or (get_or r.codes s []) c [])) 8) l.channels

-- LEGAL AS A TEST on the buffers: what is written is in its range, everything unwritten is 0
unfoldable pub legal_head : (level boundary : ℕ) → Bool
legal_head level boundary = leb level 511 && leb boundary 127

-- the first n of a row's values lie below m, and the others are 0
unfoldable pub legal_row : (count below size : ℕ) (row : List ℕ) → Bool
legal_row count below size row = every (λ i. cond (ltb i count) (ltb (get_or row i 0) below) (eqb (get_or row i 0) 0)) size

-- the codes of a band, of a subframe and of a channel, of the resolutions of its 128 bands: past the coded count they are 0, and so is the range
abbrev pub legal_band : (resolutions : List ℕ) (codes : List ℤ) (band : ℕ) → Bool
legal_band resolutions codes band = leb (nat_abs (get_or codes band (pos 0))) (code_range (get_or resolutions band 0))

unfoldable pub legal_subframe : (resolutions : List ℕ) (codes : List ℤ) → Bool
legal_subframe resolutions codes = every (legal_band resolutions codes) 128

unfoldable pub legal_codes : (resolutions : List ℕ) (codes : List ℤ) → Bool
legal_codes resolutions codes = every (λ s. legal_subframe resolutions (part 128 codes s)) 8

-- channel c, of its own factors, side values, codes and resolutions
unfoldable pub legal_channel : (l : Layout) (channel : ℕ) (factors side : List ℕ) (codes : List ℤ) (resolutions : List ℕ) → Bool
legal_channel l channel factors side codes resolutions =
    legal_row (coded_count_at l channel) 64 128 factors && (legal_row (side_count_at l channel) (2 ^ side_width (kind_at l channel)) 8 side && legal_codes resolutions
    codes)

-- every channel of the buffers
unfoldable pub legal_channels : (l : Layout) (factors side : List ℕ) (codes : List ℤ) (resolutions : List ℕ) → Bool
legal_channels l factors side codes resolutions =
    every (λ c. legal_channel l c (part 128 factors c) (part 8 side c) (part 1024 codes c) (part 128 resolutions c)) l.channels

unfoldable pub legal_record : (l : Layout) (level boundary : ℕ) (factors side : List ℕ) (codes : List ℤ) → Bool
legal_record l level boundary factors side codes =
    legal_head level boundary && legal_channels l factors side codes (all_resolutions l level boundary factors)

-- DEMAND 3's premise, 'each code is in its range': each written code of the buffers, at the resolution of its band
abbrev pub CodesInRange : (l : Layout) (level boundary : ℕ) (factors : List ℕ) (codes : List ℤ) → Type 0
CodesInRange l level boundary factors codes =
    (c s b : ℕ) → c < l.channels → s < 8 → b < coded_count_at l c →
    LegalCode (resolution_at l level boundary (part 128 factors c) b) (get_or (part 1024 codes c) (s * 128 + b) (pos 0))
