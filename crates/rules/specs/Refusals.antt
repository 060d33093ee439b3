-- Document 01, **Refusal numbers**: the number and the number beside it for each answer.
use Rattle.std.specs.Prelude.{List, [], ◌∷◌, ℕ, Result, Ok, Err}
use Rattle.rules.specs.declared.Delivery.{Delivery}
use Rattle.rules.specs.declared.StageRefusal.{StageRefusal}
use Rattle.rules.specs.declared.StageRefusal.TheVariants as stage
use Rattle.rules.specs.declared.RecordDelivery.{RecordDelivery}
use Rattle.rules.specs.declared.WriteRefusal.{WriteRefusal}
use Rattle.rules.specs.declared.WriteRefusal.TheVariants as write
use Rattle.rules.specs.declared.ReadRefusal.{ReadRefusal}
use Rattle.rules.specs.declared.ReadRefusal.TheVariants as read

-- the numbers that a success answers, or a refusal and the number beside it
pub data Outcome : Type 0 where
  delivered : List ℕ → Outcome
  refused : ℕ → ℕ → Outcome

-- 1, 2, 3, 4, 5, 7 in this order
unfoldable pub stage_outcome : (answer : Result Delivery StageRefusal) → Outcome
stage_outcome (Ok d) = delivered (d.level ∷ d.boundary ∷ d.pairs ∷ d.bits ∷ [])
stage_outcome (Err stage.BadLayout) = refused 1 0
stage_outcome (Err stage.ShortBuffer) = refused 2 0
stage_outcome (Err (stage.BadIntensity i)) = refused 3 i
stage_outcome (Err (stage.BadSpectrum i)) = refused 4 i
stage_outcome (Err (stage.NoLevel pairs)) = refused 5 pairs
stage_outcome (Err (stage.TooLong bits)) = refused 7 bits

-- 1, 2, 15, 7
unfoldable pub writer_outcome : (answer : Result RecordDelivery WriteRefusal) → Outcome
writer_outcome (Ok d) = delivered (d.level ∷ d.boundary ∷ d.bits ∷ [])
writer_outcome (Err write.BadLayout) = refused 1 0
writer_outcome (Err write.ShortBuffer) = refused 2 0
writer_outcome (Err write.NotLegal) = refused 15 0
writer_outcome (Err (write.TooLong bits)) = refused 7 bits

-- 1, 2, 8, 9, then the first fault in bit order, 14 last; 10 is withdrawn (request A6) and stands for nothing else
unfoldable pub reader_outcome : (answer : Result RecordDelivery ReadRefusal) → Outcome
reader_outcome (Ok d) = delivered (d.level ∷ d.boundary ∷ d.bits ∷ [])
reader_outcome (Err read.BadLayout) = refused 1 0
reader_outcome (Err read.ShortBuffer) = refused 2 0
reader_outcome (Err read.WrongCheck) = refused 8 0
reader_outcome (Err read.WrongSync) = refused 9 0
reader_outcome (Err (read.BadWidth bit)) = refused 11 bit
reader_outcome (Err (read.BadFactor bit)) = refused 12 bit
reader_outcome (Err (read.PastEnd bit)) = refused 13 bit
reader_outcome (Err (read.FillNotZero bit)) = refused 14 bit
