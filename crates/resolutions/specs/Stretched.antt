-- SCALE_TO_RESOLUTION_CURVE, stretched: with its first entry before it and its last after it, so that no position is held. A call's is within its
-- layout's pair, with a removed band's zeros behind. Definitions only.
use Rattle.std.specs.Prelude.{◌≡◌, cond, List, ◌++◌, ℕ, ◌-◌, ◌*◌, ◌/◌, ◌≤◌, ◌<◌, min, max, eqb, get_or, replicate}
use Rattle.rules.specs.Tables.{resolution_curve}
use Rattle.rules.specs.declared.Layout.{Layout}

unfoldable pub stretched_curve : List ℕ
stretched_curve = replicate 157 15 ++ (resolution_curve ++ replicate 200 1)

-- with a removed band's zeros behind
pub record IsPlain (t : List ℕ) : Type 0 where
  pub table : t ≡ stretched_curve ++ replicate 272 0

-- an entry within the pair
abbrev pub held_entry : (l : Layout) (i : ℕ) → ℕ
held_entry l i = min (max (get_or stretched_curve i 0) l.minimum) l.maximum

pub record IsStretched (l : Layout) (t : List ℕ) : Type 0 where
  pub entries : (i : ℕ) → i < 416 → get_or t i 0 ≡ held_entry l i
  pub zeros : (i : ℕ) → 416 ≤ i → get_or t i 0 ≡ 0
  pub limit : l.maximum ≤ 15

-- where a factor stands at noise 0
unfoldable pub place_of : (factor : ℕ) → ℕ
place_of factor = cond (eqb factor 0) 417 (159 - 5 * factor / 2)

-- the places of the first n factors
abbrev pub Placed : (n : ℕ) (factors places : List ℕ) → Type 0
Placed n factors places = (b : ℕ) → b < n → get_or places b 0 ≡ place_of (get_or factors b 0)
