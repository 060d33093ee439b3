-- The stage on buffers that are longer than the stated lengths. Assumes nothing.
use Rattle.std.specs.Prelude.{Result}
use mathlib.Core.Path.{◌≡◌, ap}
use mathlib.Core.List.{List, ◌++◌}
use Prim.Native.Nat.{ℕ}
use lib.IntN.{ℤ}
use lib.Ieee.{Float}
use lib.ListN.{length, drop}
use Rattle.rules.specs.Layout.{frame_size, spectrum_length, factor_length, side_length}
use Rattle.rules.specs.Stage.{stage_lent, stage_left, stage_overwrite, analysis, after_level}
use Rattle.rules.specs.declared.Layout.{Layout}
use Rattle.rules.specs.declared.Delivery.{Delivery}
use Rattle.rules.specs.declared.StageRefusal.{StageRefusal}

-- the parts are back in their wholes
pub opened : (l : Layout) (r : Result Delivery StageRefusal) (xs : List Float) (is : List ℕ) (ys : List Float) (js : List ℕ)
    (sc₀ : List Float) (co₀ : List ℤ) (fa₀ si₀ fr₀ : List ℕ) (sc : List Float) (co : List ℤ) (fa si fr : List ℕ)
    → length sc ≡ spectrum_length l → length co ≡ spectrum_length l → length fa ≡ factor_length l → length si ≡ side_length l → length fr ≡ frame_size l
    → stage_left r sc co fa si fr ≡ after_level l (analysis l ys js)
    → stage_left r (sc ++ drop (spectrum_length l) sc₀) (co ++ drop (spectrum_length l) co₀) (fa ++ drop (factor_length l) fa₀) (si ++ drop (side_length l) si₀)
    (fr ++ drop (frame_size l) fr₀)
    ≡ stage_overwrite (stage_lent xs is sc₀ co₀ fa₀ si₀ fr₀) (after_level l (analysis l ys js))
opened l r xs is ys js sc₀ co₀ fa₀ si₀ fr₀ sc co fa si fr p q s t u e =
    rw (p, q, s, t, u) at (ap (stage_overwrite (stage_lent xs is sc₀ co₀ fa₀ si₀ fr₀)) e)
