-- Two outcomes that a public contract allows coincide: each call has one definition, and different answers have different numbers. Assumes nothing.
use mathlib.Core.Path.{◌≡◌, refl, sym, ap, ◌∙◌}
use mathlib.Core.List.{[], ◌∷◌}
use Prim.Native.Nat.{◌-◌}
use lib.ListN.{get_or}
use Rattle.rules.specs.Refusals.{Outcome, delivered, refused, stage_outcome, writer_outcome, reader_outcome}
use Rattle.rules.specs.Stage.{StageLent, StageLeft, encode_frame}
use Rattle.rules.specs.Writer.{WriterLent, WriterLeft, write_record}
use Rattle.rules.specs.Reader.{ReaderLent, ReaderLeft, read_frame}
use Rattle.rules.specs.declared.Layout.{Layout}
use Rattle.std.specs.Prelude.{Result, Ok, Err}
use Rattle.rules.specs.declared.Delivery.{Delivery}
use Rattle.rules.specs.declared.StageRefusal.{StageRefusal}
use Rattle.rules.specs.declared.StageRefusal.TheVariants as stage-of
use Rattle.rules.specs.declared.RecordDelivery.{RecordDelivery}
use Rattle.rules.specs.declared.WriteRefusal.{WriteRefusal}
use Rattle.rules.specs.declared.WriteRefusal.TheVariants as write-of
use Rattle.rules.specs.declared.ReadRefusal.{ReadRefusal}
use Rattle.rules.specs.declared.ReadRefusal.TheVariants as Read-of

-- an answer is told from its number and the numbers beside it
stage_answer : Outcome → Result Delivery StageRefusal
stage_answer (delivered xs) = Ok (record { level = get_or xs 0 0; boundary = get_or xs 1 0; pairs = get_or xs 2 0; bits = get_or xs 3 0 })
stage_answer (refused n k) =
    Err (get_or
    (stage-of.BadLayout ∷ stage-of.ShortBuffer ∷ stage-of.BadIntensity k ∷ stage-of.BadSpectrum k ∷ stage-of.NoLevel k ∷ [])
    (n - 1) (stage-of.TooLong k))

stage_said : (a : Result Delivery StageRefusal) → stage_answer (stage_outcome a) ≡ a
unfolding stage_answer stage_outcome
stage_said (Ok d) = refl
stage_said (Err stage-of.BadLayout) = refl
stage_said (Err stage-of.ShortBuffer) = refl
stage_said (Err (stage-of.BadIntensity i)) = refl
stage_said (Err (stage-of.BadSpectrum i)) = refl
stage_said (Err (stage-of.NoLevel pairs)) = refl
stage_said (Err (stage-of.TooLong bits)) = refl

write_answer : Outcome → Result RecordDelivery WriteRefusal
write_answer (delivered xs) = Ok (record { level = get_or xs 0 0; boundary = get_or xs 1 0; bits = get_or xs 2 0 })
write_answer (refused n k) = Err (get_or (write-of.BadLayout ∷ write-of.ShortBuffer ∷ []) (n - 1) (get_or (write-of.TooLong k ∷ []) (n - 7) write-of.NotLegal))

write_said : (a : Result RecordDelivery WriteRefusal) → write_answer (writer_outcome a) ≡ a
unfolding write_answer writer_outcome
write_said (Ok d) = refl
write_said (Err write-of.BadLayout) = refl
write_said (Err write-of.ShortBuffer) = refl
write_said (Err write-of.NotLegal) = refl
write_said (Err (write-of.TooLong bits)) = refl

read_answer : Outcome → Result RecordDelivery ReadRefusal
read_answer (delivered xs) = Ok (record { level = get_or xs 0 0; boundary = get_or xs 1 0; bits = get_or xs 2 0 })
read_answer (refused n k) =
    Err (get_or (Read-of.BadLayout ∷ Read-of.ShortBuffer ∷ []) (n - 1)
    (get_or (Read-of.WrongCheck ∷ Read-of.WrongSync ∷ []) (n - 8)
    (get_or (Read-of.BadWidth k ∷ Read-of.BadFactor k ∷ Read-of.PastEnd k ∷ []) (n - 11) (Read-of.FillNotZero k))))

read_said : (a : Result RecordDelivery ReadRefusal) → read_answer (reader_outcome a) ≡ a
unfolding read_answer reader_outcome
read_said (Ok d) = refl
read_said (Err Read-of.BadLayout) = refl
read_said (Err Read-of.ShortBuffer) = refl
read_said (Err Read-of.WrongCheck) = refl
read_said (Err Read-of.WrongSync) = refl
read_said (Err (Read-of.BadWidth bit)) = refl
read_said (Err (Read-of.BadFactor bit)) = refl
read_said (Err (Read-of.PastEnd bit)) = refl
read_said (Err (Read-of.FillNotZero bit)) = refl

-- different answers have different numbers
said-apart : {A : Type 0} (number : A → Outcome) (answer : Outcome → A) → ((a : A) → answer (number a) ≡ a) → (a b : A) → number a ≡ number b → a ≡ b
said-apart number answer said a b e = sym (said a) ∙ ap answer e ∙ said b

pub stage_numbers_differ : (a b : Result Delivery StageRefusal) → stage_outcome a ≡ stage_outcome b → a ≡ b
stage_numbers_differ = said-apart stage_outcome stage_answer stage_said

pub write_numbers_differ : (a b : Result RecordDelivery WriteRefusal) → writer_outcome a ≡ writer_outcome b → a ≡ b
write_numbers_differ = said-apart writer_outcome write_answer write_said

pub read_numbers_differ : (a b : Result RecordDelivery ReadRefusal) → reader_outcome a ≡ reader_outcome b → a ≡ b
read_numbers_differ = said-apart reader_outcome read_answer read_said

-- what is left is one, and so is the answer
once : {A B : Type 0} (outcome : B → Outcome) (number : A → Outcome) → ((a b : A) → number a ≡ number b → a ≡ b) →
    (s x y : B) (a b : A) → x ≡ s → y ≡ s → number a ≡ outcome x → number b ≡ outcome y → (x ≡ y) × (a ≡ b)
once outcome number differ s x y a b p q e f = let z : x ≡ y = p ∙ sym q in (z, differ a b (e ∙ ap outcome z ∙ sym f))

pub stage_once : (l : Layout) (t : StageLent) (x y : StageLeft) (a b : Result Delivery StageRefusal) → x ≡ encode_frame l t → y ≡ encode_frame l t →
    stage_outcome a ≡ x.outcome → stage_outcome b ≡ y.outcome → (x ≡ y) × (a ≡ b)
stage_once l t = once (λ x. x.outcome) stage_outcome stage_numbers_differ (encode_frame l t)

pub write_once : (l : Layout) (t : WriterLent) (x y : WriterLeft) (a b : Result RecordDelivery WriteRefusal) → x ≡ write_record l t → y ≡ write_record l t →
    writer_outcome a ≡ x.outcome → writer_outcome b ≡ y.outcome → (x ≡ y) × (a ≡ b)
write_once l t = once (λ x. x.outcome) writer_outcome write_numbers_differ (write_record l t)

pub read_once : (l : Layout) (t : ReaderLent) (x y : ReaderLeft) (a b : Result RecordDelivery ReadRefusal) → x ≡ read_frame l t → y ≡ read_frame l t →
    reader_outcome a ≡ x.outcome → reader_outcome b ≡ y.outcome → (x ≡ y) × (a ≡ b)
read_once l t = once (λ x. x.outcome) reader_outcome read_numbers_differ (read_frame l t)
