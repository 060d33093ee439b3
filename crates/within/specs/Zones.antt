-- Document 01, **Estimate** below resolution 8: where the count of a scaled value changes, as scaled values. Definitions only.
use Rattle.std.specs.Prelude.{[], ◌∷◌, cond, ℕ, ◌*◌, Float, get_or}
use Rattle.std.specs.Float.{binary32}
use Rattle.std.specs.Float.Ieee.{of_bits, le}
use Rattle.rules.specs.declared.Mode.{Mode}
use Rattle.quantizer.specs.Marks.{drop_at}

-- the least at which scaled x step + (step + 1) reaches near, and the least at which it reaches far: from the one to the other a value takes one bit less.
-- At resolution 0 both are one value, and none takes a bit.
unfoldable pub low_pattern : (resolution : ℕ) → ℕ
low_pattern resolution = get_or (0x00000000 ∷ 0xBEAAAAAC ∷ 0xBF19999A ∷ 0xBE124927 ∷ 0xBF471C72 ∷ 0xBEE8BA2F ∷ 0xBE6C4EC8 ∷ 0xBD88888D ∷ []) resolution 0

unfoldable pub high_pattern : (resolution : ℕ) → ℕ
high_pattern resolution = get_or (0x00000000 ∷ 0x3EAAAAA8 ∷ 0x3F199998 ∷ 0x3E124920 ∷ 0x3F471C70 ∷ 0x3EE8BA2B ∷ 0x3E6C4EC0 ∷ 0x3D888880 ∷ []) resolution 0

unfoldable pub zone_low : (resolution : ℕ) → Float
zone_low resolution = of_bits binary32 (low_pattern resolution)

unfoldable pub zone_high : (resolution : ℕ) → Float
zone_high resolution = of_bits binary32 (high_pattern resolution)

-- whether the clip itself reaches past, so that its code is one past the range: at resolutions 2, 4 and 5; and what is taken off there
unfoldable pub clip_past : (resolution : ℕ) → ℕ
clip_past resolution = get_or (0 ∷ 0 ∷ 1 ∷ 0 ∷ 1 ∷ 1 ∷ 0 ∷ 0 ∷ []) resolution 0

unfoldable pub zone_drop : (mode : Mode) (resolution : ℕ) → ℕ
zone_drop mode resolution = clip_past resolution * drop_at mode resolution

-- 1 where a value reaches the mark
abbrev pub reached_f : (mark x : Float) → ℕ
reached_f mark x = cond (le mark x) 1 0
