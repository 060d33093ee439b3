-- The averages of four groups side by side. Definitions only.
use Rattle.std.specs.Prelude.{◌≡◌, cond, List, ℕ, suc, ◌+◌, ◌-◌, ◌*◌, min, ltb, Float, set}
use Rattle.floats.specs.declared.Average.{Average}
use Rattle.rules.specs.Layout.{group_count}
use Rattle.rules.specs.Hfr.{hfr_scale}
use Rattle.rules.specs.declared.Layout.{Layout}

-- how many values of b below the limit a group of g takes
unfoldable pub band_count : (g limit group : ℕ) → ℕ
band_count g limit group = min (suc group * g) limit - group * g

-- its j-th value of b; where it has none, one that has a band
unfoldable pub band_at : (g limit j group : ℕ) → ℕ
band_at g limit j group = min (group * g + j) (limit - 1)

-- a running average whose sum has come to s with a band's eight values more
unfoldable pub with_sum : (s : Float) (a : Average) → Average
with_sum s a = record { sum = s; count = a.count + 8 }

-- a, b, c and d are what f has for k and the three after it
abbrev pub AreFour : {A : Type 0} (f : ℕ → A) (k : ℕ) (a b c d : A) → Type 0
AreFour f k a b c d = (a ≡ f k) × (b ≡ f (k + 1)) × (c ≡ f (k + 2)) × (d ≡ f (k + 3))

-- a group's side value: its scale, 0 past the last group
unfoldable pub scale_at : (l : Layout) (spectra scaled : List Float) (group : ℕ) → ℕ
scale_at l spectra scaled group = cond (ltb group (group_count l)) (hfr_scale l spectra scaled group) 0

-- f's values for k and the three after it, stored at their places
unfoldable pub four_set : {A : Type 0} (f : ℕ → A) (k : ℕ) (xs : List A) → List A
four_set f k xs = set (set (set (set xs k (f k)) (k + 1) (f (k + 1))) (k + 2) (f (k + 2))) (k + 3) (f (k + 3))
