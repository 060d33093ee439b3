-- Document 01's 'Table to be proved': its ten rows in one table of questions with their results, under one theorem by computation; and the
-- small tables that code may use in the place of a float operation. Request A8's rows, under other pairs of resolutions; request A9's, in both modes.
-- Assumes nothing.
use mathlib.Core.Path.{◌≡◌, refl, sym, ap, ◌∙◌}
use mathlib.Core.List.{List, [], ◌∷◌, ◌++◌, map}
use Prim.Native.Nat.{ℕ, ◌<◌}
use lib.IntN.{ℤ, pos}
use lib.ListN.{length, get_or, replicate, get_or-map}
use lib.Ieee.{binary32, of_bits, le, add, mul, to_signed}
use Rattle.bits.specs.Bits.{bits}
use Rattle.buffers.specs.Walk.{build}
use Rattle.buffers.proofs.Build.{build-at}
use Rattle.floats.specs.Single.{abs_f}
use Rattle.rules.specs.Tables.{scaling_table, resolution_curve, step_table, dead_zone_table, max_bit_table, spectrum_bits, spectrum_value}
use Rattle.rules.specs.Signed.{held_z}
use Rattle.rules.specs.Factor.{count_le, factor_of}
use Rattle.rules.specs.Resolution.{curve_position, held_position, resolution_in, resolution}
use Rattle.rules.specs.Width.{near, later_cost, delta_cost, cost, all_zero, cheaper, width, width_cost}
use Rattle.rules.specs.Code.{step_of, step_shift, raw_code, magnitude_bits, code_limit, code_of, code_place}
use Rattle.rules.specs.Estimate.{value_bits}
use Rattle.rules.specs.Fields.{small_bits, code_bits}
use Rattle.rules.specs.declared.ChannelType.TheVariants.{Discrete}
use Rattle.rules.specs.declared.Mode.{Mode}
use Rattle.rules.specs.declared.Mode.TheVariants.{Rust, Held}
use Rattle.rules.specs.declared.Layout.{Layout}

-- one Discrete channel of two bands, F = 17, with this pair, in the Rust's mode
abbrev pub paired : (minimum maximum : ℕ) → Layout
paired minimum maximum = record {
  channels = 1;
  kinds = replicate 16 (record { kind = Discrete });
  base = 2;
  stereo = 0;
  total = 2;
  frame_size = 17;
  minimum = minimum;
  maximum = maximum;
  mode = Rust;
}

pub data Question : Type 0 where
  -- of a pattern
  factor : ℕ → Question
  -- of a factor and a noise, with 1 and 15
  resolution_of : ℕ → ℕ → Question
  -- of factors
  width_of : List ℕ → Question
  cost_of : List ℕ → Question
  -- of a pattern at a resolution, in the Rust's mode
  code : ℕ → ℕ → Question
  estimate : ℕ → ℕ → Question
  written_bits : ℕ → ℕ → Question

unfoldable pub answer : Question → ℤ
answer (factor p) = pos (factor_of (of_bits binary32 p))
answer (resolution_of f noise) = pos (resolution (paired 1 15) noise f)
answer (width_of fs) = pos (width fs)
answer (cost_of fs) = pos (width_cost fs)
answer (code p r) = code_of Rust r (of_bits binary32 p)
answer (estimate p r) = pos (value_bits Rust r (of_bits binary32 p))
answer (written_bits p r) = pos (length (code_bits r (code_of Rust r (of_bits binary32 p))))

-- the document's ten rows, in its order
unfoldable pub questions : List (List Question)
questions =
    (factor 0x342A8D25 ∷ factor 0x342A8D26 ∷ [])
    ∷ (factor 0x413504F3 ∷ [])
    ∷ (resolution_of 63 208 ∷ resolution_of 63 209 ∷ resolution_of 63 212 ∷ resolution_of 63 213 ∷ [])
    ∷ (resolution_of 1 0 ∷ resolution_of 1 1 ∷ [])
    ∷ (width_of (5 ∷ []) ∷ cost_of (5 ∷ []) ∷ width_of (0 ∷ 0 ∷ []) ∷ cost_of (0 ∷ 0 ∷ []) ∷ [])
    ∷ (width_of (10 ∷ 10 ∷ 10 ∷ []) ∷ cost_of (10 ∷ 10 ∷ 10 ∷ []) ∷ width_of (10 ∷ 11 ∷ 10 ∷ []) ∷ cost_of (10 ∷ 11 ∷ 10 ∷ []) ∷ [])
    ∷ (width_of (10 ∷ 20 ∷ 30 ∷ []) ∷ cost_of (10 ∷ 20 ∷ 30 ∷ []) ∷ width_of (0 ∷ 63 ∷ []) ∷ cost_of (0 ∷ 63 ∷ []) ∷ [])
    ∷ (code 0x3F7FFFFE 1 ∷ code 0x3F7FFFFE 2 ∷ code 0x3F7FFFFE 3 ∷ [])
    ∷ (code 0x3D042107 8 ∷ estimate 0x3D042107 8 ∷ written_bits 0x3D042107 8 ∷ [])
    ∷ (code 0xBD042108 8 ∷ estimate 0xBD042108 8 ∷ written_bits 0xBD042108 8 ∷ [])
    ∷ []

unfoldable pub results : List (List ℕ)
results =
    (0 ∷ 1 ∷ [])
    ∷ (63 ∷ [])
    ∷ (3 ∷ 2 ∷ 2 ∷ 1 ∷ [])
    ∷ (15 ∷ 14 ∷ [])
    ∷ (6 ∷ 9 ∷ 0 ∷ 3 ∷ [])
    ∷ (1 ∷ 11 ∷ 2 ∷ 13 ∷ [])
    ∷ (5 ∷ 19 ∷ 6 ∷ 15 ∷ [])
    ∷ (1 ∷ 3 ∷ 3 ∷ [])
    ∷ (1 ∷ 4 ∷ 5 ∷ [])
    ∷ (0 ∷ 5 ∷ 4 ∷ [])
    ∷ []

pub rows : map (map answer) questions ≡ map (map pos) results
unfolding answer questions results factor_of count_le scaling_table resolution resolution_in held_position curve_position resolution_curve held_z width width_cost
    cheaper all_zero cost delta_cost later_cost near code_of raw_code step_of step_shift step_table code_limit magnitude_bits max_bit_table value_bits code_place
    dead_zone_table code_bits small_bits spectrum_bits spectrum_value bits abs_f of_bits le add mul to_signed
rows = refl

-- under a pair, of a factor and a noise
abbrev limited : (minimum maximum f noise : ℕ) → ℕ
limited minimum maximum f noise = resolution (paired minimum maximum) noise f

-- request A8: 4 and 10 with factors 63, 1 and 0; 3 and 3
pub limited-rows : limited 4 10 63 0 ∷ limited 4 10 63 208 ∷ limited 4 10 63 213 ∷ limited 4 10 1 0 ∷ limited 4 10 1 254 ∷ limited 4 10 0 0
    ∷ limited 3 3 63 0 ∷ limited 3 3 63 213 ∷ []
    ≡ 10 ∷ 4 ∷ 4 ∷ 10 ∷ 4 ∷ 0 ∷ 3 ∷ 3 ∷ []
unfolding resolution resolution_in held_position curve_position resolution_curve held_z
limited-rows = refl

-- The corner of the upper clip: the codes are 3, 5 and 6 at resolutions 2, 4 and 5, one past the range. They get no bits, and none are counted.
abbrev corner : (Question → ℤ) → (ℕ → Question) → List ℤ
corner f q = map (λ r. f (q r)) (2 ∷ 4 ∷ 5 ∷ [])

pub corner-codes : corner answer (code 0x3F7FFFFE) ≡ pos 3 ∷ pos 5 ∷ pos 6 ∷ []
unfolding answer code_of raw_code step_of step_shift step_table held_z of_bits add mul to_signed
corner-codes = refl

pub corner-written : corner answer (written_bits 0x3F7FFFFE) ≡ pos 0 ∷ pos 0 ∷ pos 0 ∷ []
unfolding answer code_of raw_code step_of step_shift step_table held_z code_bits small_bits code_place spectrum_bits spectrum_value bits of_bits add mul to_signed
corner-written = refl

pub corner_estimated : corner answer (estimate 0x3F7FFFFE) ≡ pos 0 ∷ pos 0 ∷ pos 0 ∷ []
unfolding answer value_bits raw_code step_of step_shift step_table held_z code_place spectrum_bits of_bits add mul to_signed
corner_estimated = refl

-- Request A9, in a mode: the upper clip's code at a resolution, the bits that the estimate counts, and those that are written.
abbrev clip_row : (mode : Mode) (resolution : ℕ) → List ℤ
clip_row mode resolution =
    let z = code_of mode resolution (of_bits binary32 0x3F7FFFFE) in
    z ∷ pos (value_bits mode resolution (of_bits binary32 0x3F7FFFFE)) ∷ pos (length (code_bits resolution z)) ∷ []

pub held_rows : map (clip_row Rust) (2 ∷ 4 ∷ 5 ∷ []) ++ map (clip_row Held) (2 ∷ 4 ∷ 5 ∷ [])
    ≡ map (map pos) ((3 ∷ 0 ∷ 0 ∷ []) ∷ (5 ∷ 0 ∷ 0 ∷ []) ∷ (6 ∷ 0 ∷ 0 ∷ []) ∷ (2 ∷ 3 ∷ 3 ∷ []) ∷ (4 ∷ 4 ∷ 4 ∷ []) ∷ (5 ∷ 4 ∷ 4 ∷ []) ∷ [])
unfolding code_of value_bits raw_code step_of step_shift step_table held_z code_bits small_bits code_place spectrum_bits spectrum_value bits of_bits add mul to_signed
held_rows = refl

-- step + 0.5, and 2^(MAX_BIT_TABLE - 1) - 1, at each resolution
unfoldable pub shifts : List ℕ
shifts = 1 ∷ 2 ∷ 3 ∷ 4 ∷ 5 ∷ 6 ∷ 7 ∷ 8 ∷ 16 ∷ 32 ∷ 64 ∷ 128 ∷ 256 ∷ 512 ∷ 1024 ∷ 2048 ∷ []

unfoldable pub limits : List ℕ
limits = 0 ∷ 1 ∷ 3 ∷ 3 ∷ 7 ∷ 7 ∷ 7 ∷ 7 ∷ 15 ∷ 31 ∷ 63 ∷ 127 ∷ 255 ∷ 511 ∷ 1023 ∷ 2047 ∷ []

-- each once for all sixteen
tabled_shifts : build step_shift 16 ≡ map pos shifts
unfolding build shifts step_shift step_of step_table of_bits add to_signed
tabled_shifts = refl

tabled_limits : build code_limit 16 ≡ limits
unfolding build limits code_limit magnitude_bits max_bit_table
tabled_limits = refl

pub step-shifts : (r : ℕ) → r < 16 → step_shift r ≡ pos (get_or shifts r 0)
step-shifts r h = sym (build-at step_shift 16 r (pos 0) h) ∙ ap (λ t. get_or t r (pos 0)) tabled_shifts ∙ get_or-map pos shifts r 0

pub code_limits : (r : ℕ) → r < 16 → code_limit r ≡ get_or limits r 0
code_limits r h = sym (build-at code_limit 16 r 0 h) ∙ ap (λ t. get_or t r 0) tabled_limits
