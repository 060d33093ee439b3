-- Document 01, **Frame**: a record's fields as bits, high bit first.
use Rattle.std.specs.Prelude.{List, [], ◌++◌, Bool, cond, ℕ, zero, suc, ◌-◌, ◌^◌, eqb, ltb, ℤ, pos, negsuc, ◌+ℤ◌, nat_abs, get_or}
use Rattle.std.proofs.Math.Option.{Option, none, some}
use Rattle.bits.specs.Bits.{bits}
use Rattle.rules.specs.Format.{walk_bits, each_bits, times}
use Rattle.rules.specs.Tables.{spectrum_bits, spectrum_value}
use Rattle.rules.specs.Layout.{kinds_of, coded_count, side_count, side_width}
use Rattle.rules.specs.Width.{reach_of, delta_of, near, width}
use Rattle.rules.specs.Code.{code_place, magnitude_bits}
use Rattle.rules.specs.Record.{Chan, Rec, resolutions}
use Rattle.rules.specs.declared.ChannelType.{ChannelType}
use Rattle.rules.specs.declared.Layout.{Layout}

-- a later factor at width d: m + delta in d bits, or all ones in d bits and the factor in 6
unfoldable pub delta_symbol : (d previous factor : ℕ) → ℕ
delta_symbol d previous factor = cond (near d previous factor) (nat_abs (pos (reach_of d) +ℤ delta_of previous factor)) (2 ^ d - 1)

unfoldable pub delta_bits : (d previous factor : ℕ) → List Bool
delta_bits d previous factor = bits d (delta_symbol d previous factor) ++ cond (near d previous factor) [] (bits 6 factor)

-- a factor at width w, after the factor before it if there is one: at width 6, and the first, in 6 bits
abbrev pub factor_bits : (width : ℕ) (previous : Option ℕ) (factor : ℕ) → List Bool
factor_bits width none factor = bits 6 factor
factor_bits width (some previous) factor = cond (eqb width 6) (bits 6 factor) (delta_bits width previous factor)

-- the factor just passed is the next one's previous
abbrev pub as_previous : (previous : Option ℕ) (factor : ℕ) → Option ℕ
as_previous previous factor = some factor

-- width 0: none
abbrev pub all_factor_bits : (width coded : ℕ) (factors : List ℕ) → List Bool
all_factor_bits zero coded factors = []
all_factor_bits (suc w) coded factors = walk_bits as_previous (λ previous _. factor_bits (suc w) previous) none (times coded) factors

-- per channel: width (3), factors, then 8 x 4 bits of intensity or G x 6 of HFR scale
abbrev pub channel_fields : (l : Layout) (kind : ChannelType) (chan : Chan) → List Bool
channel_fields l kind chan =
    (bits 3 (width chan.factors) ++ all_factor_bits (width chan.factors) (coded_count l kind) chan.factors)
    ++ each_bits (λ _. bits (side_width kind)) (times (side_count l kind)) chan.side

-- a code below resolution 8: QUANTIZE_SPECTRUM_VALUE in its bit count
unfoldable pub small_bits : (resolution : ℕ) (code : ℤ) → List Bool
small_bits resolution code = bits (get_or (get_or spectrum_bits resolution []) (code_place code) 0) (get_or (get_or spectrum_value resolution []) (code_place code) 0)

-- a sign bit (1 is negative) if the magnitude isn't 0
abbrev pub sign_bits : (code : ℤ) → List Bool
sign_bits (pos zero) = []
sign_bits (pos (suc n)) = bits 1 0
sign_bits (negsuc n) = bits 1 1

-- a code: none at resolution 0; below 8 by the tables; else the magnitude and its sign
unfoldable pub code_bits : (resolution : ℕ) (code : ℤ) → List Bool
code_bits resolution code = cond (eqb resolution 0) []
    (cond (ltb resolution 8) (small_bits resolution code) (bits (magnitude_bits resolution) (nat_abs code) ++ sign_bits code))

-- FFFF (16 bits), level (9), boundary (7); per channel its fields; then subframe by subframe, channel by channel, the codes
unfoldable pub fields : (l : Layout) (r : Rec) → List Bool
fields l r =
    bits 16 0xFFFF ++ (bits 9 r.level ++ (bits 7 r.boundary ++ (each_bits (channel_fields l) (kinds_of l) r.chans
    ++ each_bits (λ _. each_bits (each_bits code_bits) (resolutions l r.level r.boundary r.chans)) (times 8) r.codes)))
