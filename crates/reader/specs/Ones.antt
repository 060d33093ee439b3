-- Refusal 14: the search for the fill's first 1.
use Rattle.std.specs.Prelude.{◌≡◌, List, Option, Some, None, ℕ, ◌<◌, length}
use Rattle.std.proofs.Math.Option.{some}
use Rattle.bits.specs.Place.{left_at}
use Rattle.rules.specs.Reading.{first_one}

-- no 1 stands from bit p up to bit q
abbrev pub ZerosBetween : (part : List ℕ) (p q : ℕ) → Type 0
ZerosBetween part p q = first_one (left_at part p) ≡ first_one (left_at part q)

-- the search from bit p stopped at bit q, where a 1 stands
pub record StoppedAt (part : List ℕ) (p end q : ℕ) : Type 0 where
  pub within : q < end
  pub zeros : ZerosBetween part p q
  pub one : first_one (left_at part q) ≡ some (length (left_at part q))

-- .. or it came to the end
abbrev pub Stopped : (part : List ℕ) (p end : ℕ) (r : Option ℕ) → Type 0
Stopped part p end (Some q) = StoppedAt part p end q
Stopped part p end None = ZerosBetween part p end
