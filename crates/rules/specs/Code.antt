-- Document 01, **Code**.
use Rattle.std.specs.Prelude.{List, cond, ℕ, ◌+◌, ◌-◌, ◌*◌, ◌^◌, eqb, ltb, ℤ, pos, negsuc, neg_ℤ, ◌+ℤ◌, ◌-ℤ◌, nat_abs, Float, get_or}
use Rattle.std.specs.Float.{nan, binary32}
use Rattle.std.specs.Float.Ieee.{of_bits, add, mul}
use Rattle.buffers.specs.Walk.{build, blocks}
use Rattle.floats.specs.Single.{one_f}
use Rattle.rules.specs.Tables.{step_table, max_bit_table}
use Rattle.rules.specs.Signed.{held_z, as_i32}
use Rattle.rules.specs.Layout.{part}
use Rattle.rules.specs.declared.Mode.{Mode}
use Rattle.rules.specs.declared.Mode.TheVariants.{Rust, Held}
use Rattle.rules.specs.declared.Layout.{Layout}

unfoldable pub step_of : (resolution : ℕ) → Float
step_of resolution = get_or step_table resolution nan

-- step + 0.5, which is whole
unfoldable pub step_shift : (resolution : ℕ) → ℤ
step_shift resolution = as_i32 (add binary32 (step_of resolution) (of_bits binary32 0x3F000000))

-- truncate (scaled x step + (step + 1)), each operation rounded once, and subtract step + 0.5
unfoldable pub raw_code : (resolution : ℕ) (x : Float) → ℤ
raw_code resolution x = as_i32 (add binary32 (mul binary32 x (step_of resolution)) (add binary32 (step_of resolution) one_f)) -ℤ step_shift resolution

-- the bits of a magnitude from resolution 8 up
unfoldable pub magnitude_bits : (resolution : ℕ) → ℕ
magnitude_bits resolution = get_or max_bit_table resolution 0 - 1

-- 2^(MAX_BIT_TABLE - 1) - 1
unfoldable pub code_limit : (resolution : ℕ) → ℕ
code_limit resolution = 2 ^ magnitude_bits resolution - 1

-- below resolution 8, before anything else sees it. Rust: as it is; Held: within ± the resolution. Here alone the rules look at the mode
abbrev pub limited_code : (mode : Mode) (resolution : ℕ) (z : ℤ) → ℤ
limited_code Rust resolution z = z
limited_code Held resolution z = held_z (neg_ℤ (pos resolution)) (pos resolution) z

-- held to -8..7 below resolution 8, else to ± the limit
unfoldable pub code_of : (mode : Mode) (resolution : ℕ) (x : Float) → ℤ
code_of mode resolution x =
    cond (ltb resolution 8)
    (held_z (negsuc 7) (pos 7) (limited_code mode resolution (raw_code resolution x)))
    (held_z (neg_ℤ (pos (code_limit resolution))) (pos (code_limit resolution)) (raw_code resolution x))

-- a code's place in a row of the tables below resolution 8: 8 + code, within the table's 0..15
unfoldable pub code_place : (z : ℤ) → ℕ
code_place z = nat_abs (held_z (pos 0) (pos 15) (pos 8 +ℤ z))

-- as it is recorded: 0 at resolution 0
unfoldable pub recorded_code : (mode : Mode) (resolution : ℕ) (x : Float) → ℤ
recorded_code mode resolution x = cond (eqb resolution 0) (pos 0) (code_of mode resolution x)

-- band b of subframe s of a channel, of the resolutions of its 128 bands (0 past the coded count) and its 1,024 scaled values
unfoldable pub code_at : (mode : Mode) (resolutions : List ℕ) (scaled : List Float) (subframe band : ℕ) → ℤ
code_at mode resolutions scaled subframe band = recorded_code mode (get_or resolutions band 0) (get_or scaled (band * 8 + subframe) nan)

-- a subframe's 128 codes; a channel's 1,024, by subframe and band; and every channel's
unfoldable pub subframe_codes : (mode : Mode) (resolutions : List ℕ) (scaled : List Float) (subframe : ℕ) → List ℤ
subframe_codes mode resolutions scaled subframe = build (code_at mode resolutions scaled subframe) 128

unfoldable pub channel_codes : (mode : Mode) (resolutions : List ℕ) (scaled : List Float) → List ℤ
channel_codes mode resolutions scaled = blocks (subframe_codes mode resolutions scaled) 8

unfoldable pub all_codes : (l : Layout) (resolutions : List ℕ) (scaled : List Float) → List ℤ
all_codes l resolutions scaled = blocks (λ c. channel_codes l.mode (part 128 resolutions c) (part 1024 scaled c)) l.channels
