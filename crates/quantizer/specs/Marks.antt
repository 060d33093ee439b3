-- Document 01, **Estimate** below resolution 8: where the count of QUANTIZE_SPECTRUM_BITS changes, as whole numbers of scaled x step + (step + 1).
use Rattle.std.specs.Prelude.{[], ◌∷◌, ℕ, suc, ◌-◌, ℤ, pos, negsuc, Float, get_or}
use Rattle.std.specs.Float.{binary32}
use Rattle.std.specs.Float.Ieee.{of_int}
use Rattle.rules.specs.Tables.{spectrum_bits}
use Rattle.rules.specs.Code.{step_of, limited_code, code_place}
use Rattle.rules.specs.declared.Mode.{Mode}
use Rattle.quantizer.specs.declared.counts.Marks.{Marks}

-- a whole number as a single
abbrev pub whole_f : (k : ℕ) → Float
whole_f k = of_int binary32 (pos k)

unfoldable pub near_at : (resolution : ℕ) → ℕ
near_at resolution = get_or (1 ∷ 2 ∷ 2 ∷ 4 ∷ 2 ∷ 4 ∷ 6 ∷ 8 ∷ []) resolution 0

unfoldable pub far_at : (resolution : ℕ) → ℕ
far_at resolution = get_or (1 ∷ 3 ∷ 5 ∷ 5 ∷ 9 ∷ 9 ∷ 9 ∷ 9 ∷ []) resolution 0

unfoldable pub past_at : (resolution : ℕ) → ℕ
past_at resolution = get_or (1 ∷ 4 ∷ 6 ∷ 8 ∷ 10 ∷ 12 ∷ 14 ∷ 16 ∷ []) resolution 0

unfoldable pub high_at : (resolution : ℕ) → ℕ
high_at resolution = get_or (0 ∷ 2 ∷ 3 ∷ 3 ∷ 4 ∷ 4 ∷ 4 ∷ 4 ∷ []) resolution 0

-- a code's bits, limited as the mode says
abbrev pub limited_bits : (mode : Mode) (resolution : ℕ) (z : ℤ) → ℕ
limited_bits mode resolution z = get_or (get_or spectrum_bits resolution []) (code_place (limited_code mode resolution z)) 0

-- of the code one below its range; and what those of the code one past it lack
unfoldable pub low_at : (mode : Mode) (resolution : ℕ) → ℕ
low_at mode resolution = limited_bits mode resolution (negsuc resolution)

unfoldable pub drop_at : (mode : Mode) (resolution : ℕ) → ℕ
drop_at mode resolution = high_at resolution - limited_bits mode resolution (pos (suc resolution))

abbrev pub marks_of : (step near far past : Float) (low high drop : ℕ) → Marks
marks_of step near far past low high drop = record { step = step; near = near; far = far; past = past; low = low; high = high; drop = drop }

unfoldable pub marks_at : (mode : Mode) (resolution : ℕ) → Marks
marks_at mode resolution =
    marks_of (step_of resolution) (whole_f (near_at resolution)) (whole_f (far_at resolution)) (whole_f (past_at resolution))
    (low_at mode resolution) (high_at resolution - low_at mode resolution) (drop_at mode resolution)
