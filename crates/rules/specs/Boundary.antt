-- Document 01, **Boundary**: the Rust's search over 0..127, over any estimate.
use Rattle.std.specs.Prelude.{Bool, cond, ℕ, zero, suc, ◌+◌, ◌-◌, ◌/◌, ltb, eqb}

-- where the loop stops: one is left, or the higher of two is probed
unfoldable pub last_of : (over : ℕ → Bool) (low high : ℕ) → ℕ
last_of over low high = cond (eqb low high) low (cond (over high) low high)

-- n is at least high - low
unfoldable pub narrow : (over : ℕ → Bool) (fuel low high : ℕ) → ℕ
narrow over zero low high = last_of over low high
narrow over (suc n) low high =
    let mid = (low + high) / 2 in
    cond (ltb (low + 1) high) (cond (over mid) (narrow over n low (mid - 1)) (narrow over n mid high)) (last_of over low high)

unfoldable pub search_boundary : (over : ℕ → Bool) → ℕ
search_boundary over = narrow over 127 0 127

-- 0 at level 0, with no probe
unfoldable pub boundary_of : (level : ℕ) (over : ℕ → Bool) → ℕ
boundary_of level over = cond (eqb level 0) 0 (search_boundary over)
