-- Document 01, **Refusal numbers**: which numbers an answer can have, by its type. Assumes nothing.
use mathlib.Core.Path.{◌≡◌, subst}
use mathlib.Core.List.{List, [], ◌∷◌}
use Prim.Native.Nat.{ℕ}
use native.Mathlib.Omega.{arith}
use mir.Val.{has_key}
use lib.Dec.{T}
use types.Run.{OneOf, hit}
use Rattle.rules.specs.Refusals.{Outcome, delivered, refused, stage_outcome, writer_outcome, reader_outcome}
use Rattle.std.specs.Prelude.{Result, Ok, Err}
use Rattle.rules.specs.declared.Delivery.{Delivery}
use Rattle.rules.specs.declared.StageRefusal.{StageRefusal}
use Rattle.rules.specs.declared.StageRefusal.TheVariants as stage
use Rattle.rules.specs.declared.RecordDelivery.{RecordDelivery}
use Rattle.rules.specs.declared.WriteRefusal.{WriteRefusal}
use Rattle.rules.specs.declared.WriteRefusal.TheVariants as write
use Rattle.rules.specs.declared.ReadRefusal.{ReadRefusal}
use Rattle.rules.specs.declared.ReadRefusal.TheVariants as read

-- where it refuses, the number is one of these
abbrev pub Numbered : (numbers : List ℕ) (o : Outcome) → Type 0
Numbered numbers o = (n k : ℕ) → o ≡ refused n k → OneOf numbers n

pub numbered : (numbers : List ℕ) (a b : ℕ) → T (has_key numbers a) → Numbered numbers (refused a b)
numbered numbers a b h n k e = let z : a ≡ n = cc e in subst (OneOf numbers) z (hit numbers a h)

-- a delivery is no refusal
pub never : {A : Type 0} {xs : List ℕ} {n k : ℕ} → delivered xs ≡ refused n k → A
never e = let z : ◌≡◌ {A = ℕ} 0 1 = cc e in absurd (omega arith)

pub unnumbered : (numbers xs : List ℕ) → Numbered numbers (delivered xs)
unnumbered numbers xs n k e = never e

abbrev pub stage_numbers : List ℕ
stage_numbers = 1 ∷ 2 ∷ 3 ∷ 4 ∷ 5 ∷ 7 ∷ []

abbrev pub writer_numbers : List ℕ
writer_numbers = 1 ∷ 2 ∷ 7 ∷ 15 ∷ []

abbrev pub reader_numbers : List ℕ
reader_numbers = 1 ∷ 2 ∷ 8 ∷ 9 ∷ 11 ∷ 12 ∷ 13 ∷ 14 ∷ []

pub stage_answers : (a : Result Delivery StageRefusal) → Numbered stage_numbers (stage_outcome a)
unfolding stage_outcome
stage_answers (Ok d) = unnumbered stage_numbers _
stage_answers (Err stage.BadLayout) = numbered stage_numbers 1 0 tt
stage_answers (Err stage.ShortBuffer) = numbered stage_numbers 2 0 tt
stage_answers (Err (stage.BadIntensity i)) = numbered stage_numbers 3 i tt
stage_answers (Err (stage.BadSpectrum i)) = numbered stage_numbers 4 i tt
stage_answers (Err (stage.NoLevel pairs)) = numbered stage_numbers 5 pairs tt
stage_answers (Err (stage.TooLong bits)) = numbered stage_numbers 7 bits tt

pub write_answers : (a : Result RecordDelivery WriteRefusal) → Numbered writer_numbers (writer_outcome a)
unfolding writer_outcome
write_answers (Ok d) = unnumbered writer_numbers _
write_answers (Err write.BadLayout) = numbered writer_numbers 1 0 tt
write_answers (Err write.ShortBuffer) = numbered writer_numbers 2 0 tt
write_answers (Err write.NotLegal) = numbered writer_numbers 15 0 tt
write_answers (Err (write.TooLong bits)) = numbered writer_numbers 7 bits tt

pub read_answers : (a : Result RecordDelivery ReadRefusal) → Numbered reader_numbers (reader_outcome a)
unfolding reader_outcome
read_answers (Ok d) = unnumbered reader_numbers _
read_answers (Err read.BadLayout) = numbered reader_numbers 1 0 tt
read_answers (Err read.ShortBuffer) = numbered reader_numbers 2 0 tt
read_answers (Err read.WrongCheck) = numbered reader_numbers 8 0 tt
read_answers (Err read.WrongSync) = numbered reader_numbers 9 0 tt
read_answers (Err (read.BadWidth bit)) = numbered reader_numbers 11 bit tt
read_answers (Err (read.BadFactor bit)) = numbered reader_numbers 12 bit tt
read_answers (Err (read.PastEnd bit)) = numbered reader_numbers 13 bit tt
read_answers (Err (read.FillNotZero bit)) = numbered reader_numbers 14 bit tt
