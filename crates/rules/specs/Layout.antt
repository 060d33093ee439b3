-- Document 01, **Layout and lent buffers**: the limits of a layout, and the counts that follow from it.
use Rattle.std.specs.Prelude.{List, Bool, true, false, cond, ◌&&◌, ℕ, ◌+◌, ◌-◌, ◌*◌, ◌/◌, ◌≤◌, leb, eqb, get_or, take, drop}
use Rattle.buffers.specs.Walk.{build}
use Rattle.rules.specs.declared.ChannelType.{ChannelType}
use Rattle.rules.specs.declared.ChannelType.TheVariants.{Discrete, StereoPrimary, StereoSecondary}
use Rattle.rules.specs.declared.Layout.{Layout}
use Rattle.rules.specs.declared.Room.{Room}

-- the frame's size F
abbrev pub frame_size : (l : Layout) → ℕ
frame_size l = l.frame_size

-- the lowest and the highest resolution (request A8)
abbrev pub legal_pair : (minimum maximum : ℕ) → Bool
legal_pair minimum maximum = leb 1 minimum && (leb minimum maximum && leb maximum 15)

-- Channels C: 1 to 16. Bands: total 1 to 128, base + stereo at most total. Frame size F: 8 to 65,535 bytes.
unfoldable pub legal_layout : (l : Layout) → Bool
legal_layout l =
    leb 1 l.channels && (leb l.channels 16 && (leb 1 l.total && (leb l.total 128
    && (leb (l.base + l.stereo) l.total && (leb 8 (frame_size l) && (leb (frame_size l) 65535
    && legal_pair l.minimum l.maximum))))))

-- the same as facts
pub record LegalLayout (l : Layout) : Type 0 where
  pub some : 1 ≤ l.channels
  pub few : l.channels ≤ 16
  pub band : 1 ≤ l.total
  pub bands : l.total ≤ 128
  pub start : l.base + l.stereo ≤ l.total
  pub small : 8 ≤ frame_size l
  pub large : frame_size l ≤ 65535
  pub lowest : 1 ≤ l.minimum
  pub paired : l.minimum ≤ l.maximum
  pub highest : l.maximum ≤ 15

-- the kinds of the channels, in their order
unfoldable pub kind_at : (l : Layout) (channel : ℕ) → ChannelType
kind_at l channel = (get_or l.kinds channel (record { kind = Discrete })).kind

unfoldable pub kinds_of : (l : Layout) → List ChannelType
kinds_of l = build (kind_at l) l.channels

abbrev pub is_secondary : (kind : ChannelType) → Bool
is_secondary Discrete = false
is_secondary StereoPrimary = false
is_secondary StereoSecondary = true

unfoldable pub secondary_at : (l : Layout) (channel : ℕ) → Bool
secondary_at l channel = is_secondary (kind_at l channel)

-- Start N
abbrev pub start_band : (l : Layout) → ℕ
start_band l = l.base + l.stereo

-- HFR bands, bands per group g, groups G
abbrev pub hfr_bands : (l : Layout) → ℕ
hfr_bands l = l.total - start_band l

-- a / b rounded up, 0 if b is 0
unfoldable pub ceil_div : (a b : ℕ) → ℕ
ceil_div a b = cond (eqb b 0) 0 ((a + (b - 1)) / b)

unfoldable pub bands_per_group : (l : Layout) → ℕ
bands_per_group l = ceil_div (hfr_bands l) 8

unfoldable pub group_count : (l : Layout) → ℕ
group_count l = ceil_div (hfr_bands l) (bands_per_group l)

-- Coded count: base for a secondary, else N
abbrev pub coded_count : (l : Layout) (kind : ChannelType) → ℕ
coded_count l kind = cond (is_secondary kind) l.base (start_band l)

unfoldable pub coded_count_at : (l : Layout) (channel : ℕ) → ℕ
coded_count_at l channel = coded_count l (kind_at l channel)

-- Side values: a secondary's 8 intensities of 4 bits, else G HFR scales of 6 bits
abbrev pub side_count : (l : Layout) (kind : ChannelType) → ℕ
side_count l kind = cond (is_secondary kind) 8 (group_count l)

abbrev pub side_width : (kind : ChannelType) → ℕ
side_width kind = cond (is_secondary kind) 4 6

unfoldable pub side_count_at : (l : Layout) (channel : ℕ) → ℕ
side_count_at l channel = side_count l (kind_at l channel)

-- The lengths of the lent buffers
abbrev pub spectrum_length : (l : Layout) → ℕ
spectrum_length l = l.channels * 1024

abbrev pub factor_length : (l : Layout) → ℕ
factor_length l = l.channels * 128

abbrev pub side_length : (l : Layout) → ℕ
side_length l = l.channels * 8

-- whether the buffers of a record and of its frame are long enough
abbrev pub room_of : (factors side codes frame : ℕ) → Room
room_of factors side codes frame = record { factors = factors; side = side; codes = codes; frame = frame }

unfoldable pub has_room : (l : Layout) (room : Room) → Bool
has_room l room = leb (factor_length l) room.factors
    && (leb (side_length l) room.side && (leb (spectrum_length l) room.codes && leb (frame_size l) room.frame))

-- the same as facts
pub record HasRoom (l : Layout) (r : Room) : Type 0 where
  pub factors : factor_length l ≤ r.factors
  pub side : side_length l ≤ r.side
  pub codes : spectrum_length l ≤ r.codes
  pub frame : frame_size l ≤ r.frame

-- channel c's part of a buffer with n values a channel
abbrev pub part : {A : Type 0} (n : ℕ) (xs : List A) (c : ℕ) → List A
part n xs c = take n (drop (c * n) xs)
