-- What the search of the level and the removal cite. Assumes nothing.
use mathlib.Core.Path.{◌≡◌, sym, ap, subst, ◌∙◌}
use mathlib.Core.Bool.{Bool}
use mathlib.Core.List.{List}
use Prim.Native.Nat.{ℕ, ◌*◌, ◌<◌, ◌≤◌}
use native.Mathlib.Omega.{arith}
use lib.Ieee.{Float}
use lib.ListN.{length, length-set}
use Rattle.rules.specs.Layout.{part}
use Rattle.rules.specs.Estimate.{exceeds}
use Rattle.rules.specs.Level.{clear_two}
use Rattle.rules.specs.declared.Layout.{Layout}
use Rattle.rules.proofs.Cuts.{length_part}
use Rattle.std.proofs.Common.{Option, None, Some, IfSome}
use Rattle.rules.specs.Layout.{frame_size}
use Rattle.rules.specs.Estimate.{used_bits}
use Rattle.rules.specs.Level.{level_of}
use Rattle.search_level.specs.declared.Found.{Found}
use Rattle.search_level.specs.Found.{FitsAt}

-- whether a level exceeds with these factors, at boundary 0
abbrev pub over_at : Layout → List Float → List ℕ → ℕ → Bool
over_at l scaled factors level = exceeds l scaled factors level 0

-- channel c's factors with a pair cleared, and their length
abbrev pub cleared_at : List ℕ → ℕ → ℕ → List ℕ
cleared_at factors band c = clear_two (part 128 factors c) band

pub cleared-size : (factors : List ℕ) (band n : ℕ) → length factors ≡ n * 128 → (c : ℕ) → c < n → length (cleared_at factors band c) ≡ 128
unfolding clear_two
cleared-size factors band n e c h = simp length-set (length_part 128 n c factors (omega arith) h)

-- what the halving kept is the level found
pub kept-fits : (l : Layout) (scaled : List Float) (factors : List ℕ) (high : ℕ) → high ≡ level_of (over_at l scaled factors) → (o : Option Found)
    → IfSome o (λ f. (f.level ≡ high) × (high ≤ 254) × (f.used ≡ used_bits l scaled factors high 0) × (f.used ≤ 8 * frame_size l))
    → IfSome o (λ f. FitsAt l scaled factors f)
kept-fits l scaled factors high e None h = h
kept-fits l scaled factors high e (Some f) (a, b, u, fits) = (a ∙ e, subst (λ n. n ≤ 254) (sym a) b, u ∙ ap (λ n. used_bits l scaled factors n 0) (sym a), fits)
