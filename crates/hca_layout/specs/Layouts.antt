-- How two slices of numbers name a layout.
use Rattle.std.specs.Prelude.{List, Bool, cond, ◌&&◌, ℕ, leb, ltb, eqb, length, get_or}
use Rattle.buffers.specs.Walk.{first, build}
use Rattle.rules.specs.Layout.{legal_layout}
use Rattle.rules.specs.declared.Channel.{Channel}
use Rattle.rules.specs.declared.ChannelType.{ChannelType}
use Rattle.rules.specs.declared.ChannelType.TheVariants.{Discrete, StereoPrimary, StereoSecondary}
use Rattle.rules.specs.declared.Mode.{Mode}
use Rattle.rules.specs.declared.Mode.TheVariants.{Rust, Held}
use Rattle.rules.specs.declared.Layout.{Layout}

-- 0 Discrete, 1 StereoPrimary, 2 StereoSecondary
abbrev pub kind_of : (k : ℕ) → ChannelType
kind_of k = cond (eqb k 2) StereoSecondary (cond (eqb k 1) StereoPrimary Discrete)

-- kinds past the lent ones are Discrete
abbrev pub channel_at : (kinds : List ℕ) (channel : ℕ) → Channel
channel_at kinds channel = record { kind = kind_of (get_or kinds channel 0) }

-- 0 Rust, 1 Held
abbrev pub mode_of : (n : ℕ) → Mode
mode_of n = cond (eqb n 1) Held Rust

-- channels, base, stereo, total, frame size; then minimum, maximum and mode, 1, 15 and 0 where they are not lent; later numbers are not looked at
unfoldable pub layout_of : (numbers kinds : List ℕ) → Layout
layout_of numbers kinds = record {
  channels = get_or numbers 0 0;
  kinds = build (channel_at kinds) 16;
  base = get_or numbers 1 0;
  stereo = get_or numbers 2 0;
  total = get_or numbers 3 0;
  frame_size = get_or numbers 4 0;
  minimum = get_or numbers 5 1;
  maximum = get_or numbers 6 15;
  mode = mode_of (get_or numbers 7 0);
}

unfoldable pub bad_kind : (kinds : List ℕ) (channel : ℕ) → Bool
bad_kind kinds channel = ltb 2 (get_or kinds channel 0)

-- a kind for each of n channels, none above 2
unfoldable pub has_kinds : (kinds : List ℕ) (n : ℕ) → Bool
has_kinds kinds n = leb n (length kinds) && leb n (first (bad_kind kinds) n)

-- five numbers, a kind for each channel, none above 2, a mode not above 1, and a layout within the limits: else refusal 1
unfoldable pub is_layout : (numbers kinds : List ℕ) → Bool
is_layout numbers kinds =
    leb 5 (length numbers) && (leb (get_or numbers 0 0) (length kinds) && (leb (get_or numbers 0 0) (first (bad_kind kinds) (get_or numbers 0 0))
    && (leb (get_or numbers 7 0) 1 && legal_layout (layout_of numbers kinds))))
