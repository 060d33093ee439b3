-- What the contracts of `refusals` cite: an outcome as a refusal.
use Rattle.rules.specs.Refusals.{Outcome, delivered, refused}
use Rattle.refusals.specs.declared.Refusal.{Refusal}

-- both numbers 0 for a delivery
unfoldable pub refusal_of : (o : Outcome) → Refusal
refusal_of (delivered ns) = record { number = 0; beside = 0 }
refusal_of (refused number beside) = record { number = number; beside = beside }
