-- Two outcomes that a contract of the list's calls allows coincide: each call has one definition, and different answers have different numbers.
-- Assumes nothing.
use mathlib.Core.Path.{◌≡◌, refl, sym, ap, ◌∙◌}
use mathlib.Core.List.{List, [], ◌∷◌}
use Prim.Native.Nat.{ℕ, ◌-◌}
use lib.ListN.{get_or}
use Rattle.std.specs.Prelude.{Result, Ok, Err}
use Rattle.rules.specs.Refusals.{Outcome, delivered, refused}
use Rattle.rules_files.specs.List.{list_written_outcome, list_read_outcome, entry_outcome, summary_outcome, ListLeft, list_left, write_list, EntriesLeft}
use Rattle.rules_files.specs.List.{entries_left, read_list, list_entry, list_summary}
use Rattle.rules_files.specs.declared.list.Entry.{Entry}
use Rattle.rules_files.specs.declared.list.Summary.{Summary}
use Rattle.rules_files.specs.declared.list.ListWriteRefusal.{ListWriteRefusal}
use Rattle.rules_files.specs.declared.list.ListWriteRefusal.TheVariants as write
use Rattle.rules_files.specs.declared.list.ListReadRefusal.{ListReadRefusal}
use Rattle.rules_files.specs.declared.list.ListReadRefusal.TheVariants as read
use Rattle.rules_files.specs.declared.list.EntryRefusal.{EntryRefusal}
use Rattle.rules_files.specs.declared.list.EntryRefusal.TheVariants as look
use Rattle.rules_files.specs.declared.list.SummaryRefusal.{SummaryRefusal}
use Rattle.rules_files.specs.declared.list.SummaryRefusal.TheVariants as sum

-- an answer is told from its number and the numbers that it delivers
written_answer : Outcome → Result (Unit {0}) ListWriteRefusal
written_answer (delivered xs) = Ok tt
written_answer (refused k p) = Err (get_or (write.ShortBuffer ∷ []) (k - 2) write.BadEntry)

written-said : (a : Result (Unit {0}) ListWriteRefusal) → written_answer (list_written_outcome a) ≡ a
unfolding written_answer list_written_outcome
written-said (Ok x) = refl
written-said (Err write.ShortBuffer) = refl
written-said (Err write.BadEntry) = refl

read_answer : Outcome → Result ℕ ListReadRefusal
read_answer (delivered xs) = Ok (get_or xs 0 0)
read_answer (refused k p) = Err (get_or (read.ShortBuffer ∷ []) (k - 2) (get_or (read.BadMark ∷ read.BadLength ∷ []) (k - 19) read.BadEntry))

read_said : (a : Result ℕ ListReadRefusal) → read_answer (list_read_outcome a) ≡ a
unfolding read_answer list_read_outcome
read_said (Ok n) = refl
read_said (Err read.ShortBuffer) = refl
read_said (Err read.BadMark) = refl
read_said (Err read.BadLength) = refl
read_said (Err read.BadEntry) = refl

look_answer : Outcome → Result Entry EntryRefusal
look_answer (delivered xs) = Ok (record { level = get_or xs 0 0; boundary = get_or xs 1 0; pairs = get_or xs 2 0; bits = get_or xs 3 0 })
look_answer (refused k p) = Err (get_or (look.BadMark ∷ look.BadLength ∷ look.BadEntry ∷ []) (k - 19) look.NoFrame)

look_said : (a : Result Entry EntryRefusal) → look_answer (entry_outcome a) ≡ a
unfolding look_answer entry_outcome
look_said (Ok e) = refl
look_said (Err look.BadMark) = refl
look_said (Err look.BadLength) = refl
look_said (Err look.BadEntry) = refl
look_said (Err look.NoFrame) = refl

sum_answer : Outcome → Result Summary SummaryRefusal
sum_answer (delivered xs) = Ok (record { level = get_or xs 0 0; pairs = get_or xs 1 0; bits = get_or xs 2 0 })
sum_answer (refused k p) = Err (get_or (sum.BadMark ∷ sum.BadLength ∷ []) (k - 19) sum.BadEntry)

sum_said : (a : Result Summary SummaryRefusal) → sum_answer (summary_outcome a) ≡ a
unfolding sum_answer summary_outcome
sum_said (Ok s) = refl
sum_said (Err sum.BadMark) = refl
sum_said (Err sum.BadLength) = refl
sum_said (Err sum.BadEntry) = refl

-- two answers whose outcomes are one
one : {A : Type 0} (number : A → Outcome) (answer : Outcome → A) → ((a : A) → answer (number a) ≡ a) → (o : Outcome) (a b : A) → number a ≡ o → number b ≡ o → a
    ≡ b
one number answer said o a b e f = sym (said a) ∙ ap answer (e ∙ sym f) ∙ said b

-- ---- for each call, two answers and two contents that its contract allows

pub list_write_once : (n : ℕ) (entries list x y : List ℕ) (a b : Result (Unit {0}) ListWriteRefusal) → list_left a x ≡ write_list n entries list → list_left b y
    ≡ write_list n entries list
    → (a ≡ b) × (x ≡ y)
list_write_once n entries list x y a b p q = (
  one list_written_outcome written_answer written-said _ a b (ap (λ (z : ListLeft). z.outcome) p) (ap (λ (z : ListLeft). z.outcome) q),
  ap (λ (z : ListLeft). z.list) (p ∙ sym q),
)

pub list_read_once : (list entries x y : List ℕ) (a b : Result ℕ ListReadRefusal) → entries_left a x ≡ read_list list entries
    → entries_left b y ≡ read_list list entries
    → (a ≡ b) × (x ≡ y)
list_read_once list entries x y a b p q = (
  one list_read_outcome read_answer read_said _ a b (ap (λ (z : EntriesLeft). z.outcome) p) (ap (λ (z : EntriesLeft). z.outcome) q),
  ap (λ (z : EntriesLeft). z.entries) (p ∙ sym q),
)

pub lookup_once : (list : List ℕ) (frame : ℕ) (a b : Result Entry EntryRefusal) → entry_outcome a ≡ list_entry list frame
    → entry_outcome b ≡ list_entry list frame → a ≡ b
lookup_once list frame a b = one entry_outcome look_answer look_said (list_entry list frame) a b

pub summary_once : (list : List ℕ) (a b : Result Summary SummaryRefusal) → summary_outcome a ≡ list_summary list → summary_outcome b ≡ list_summary list → a ≡ b
summary_once list a b = one summary_outcome sum_answer sum_said (list_summary list) a b
