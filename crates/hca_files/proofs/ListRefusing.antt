-- An answer of the list's calls that is no delivery: its refusal is told by its number, and 0 beside it. Assumes nothing.
use mathlib.Core.Path.{◌≡◌, sym, ap, subst}
use mathlib.Core.List.{List}
use Prim.Native.Nat.{ℕ, ◌≤◌, ◌<◌}
use native.Mathlib.Omega.{arith}
use Rattle.std.specs.Prelude.{Result, Err}
use Rattle.rules.specs.Refusals.{Outcome, delivered, refused}
use Rattle.rules_files.specs.List.{list_written_outcome, list_read_outcome, entry_outcome, summary_outcome}
use Rattle.rules_files.specs.declared.list.Summary.{Summary}
use Rattle.rules_files.specs.declared.list.ListWriteRefusal.{ListWriteRefusal}
use Rattle.rules_files.specs.declared.list.ListWriteRefusal.TheVariants as write
use Rattle.rules_files.specs.declared.list.ListReadRefusal.{ListReadRefusal}
use Rattle.rules_files.specs.declared.list.ListReadRefusal.TheVariants as read
use Rattle.rules_files.specs.declared.list.EntryRefusal.{EntryRefusal}
use Rattle.rules_files.specs.declared.list.EntryRefusal.TheVariants as look
use Rattle.rules_files.specs.declared.list.SummaryRefusal.{SummaryRefusal}
use Rattle.rules_files.specs.declared.list.SummaryRefusal.TheVariants as sum
use Rattle.refusals.specs.Refusals.{refusal_of}
use Rattle.refusals.specs.declared.Refusal.{Refusal}
use Rattle.hca_answers.specs.Outcomes.{result_of, AnswerStored}
use Rattle.hca_files.specs.Lists.{SummaryStored}

-- a refusal with 0 beside it
pub data Refuses : Outcome → Type 0 where
  refuses : (number : ℕ) → number ≤ 31 → Refuses (refused number 0)

-- ---- by the refusal

pub written-refuses : (e : ListWriteRefusal) → Refuses (list_written_outcome (Err e))
unfolding list_written_outcome
written-refuses write.ShortBuffer = refuses 2 (omega arith)
written-refuses write.BadEntry = refuses 21 (omega arith)

pub list-refuses : (e : ListReadRefusal) → Refuses (list_read_outcome (Err e))
unfolding list_read_outcome
list-refuses read.ShortBuffer = refuses 2 (omega arith)
list-refuses read.BadMark = refuses 19 (omega arith)
list-refuses read.BadLength = refuses 20 (omega arith)
list-refuses read.BadEntry = refuses 21 (omega arith)

pub entry-refuses : (e : EntryRefusal) → Refuses (entry_outcome (Err e))
unfolding entry_outcome
entry-refuses look.BadMark = refuses 19 (omega arith)
entry-refuses look.BadLength = refuses 20 (omega arith)
entry-refuses look.BadEntry = refuses 21 (omega arith)
entry-refuses look.NoFrame = refuses 31 (omega arith)

pub summary_refuses : (e : SummaryRefusal) → Refuses (summary_outcome (Err e))
unfolding summary_outcome
summary_refuses sum.BadMark = refuses 19 (omega arith)
summary_refuses sum.BadLength = refuses 20 (omega arith)
summary_refuses sum.BadEntry = refuses 21 (omega arith)

-- ---- what is told of it

pub refusal-fits : (o : Outcome) (r : Refusal) → Refuses o → r ≡ refusal_of o → (r.number < 4294967296) × (r.beside < 4294967296)
unfolding refusal_of
refusal-fits o r (refuses number k) e =
    subst (λ (x : Refusal). (x.number < 4294967296) × (x.beside < 4294967296)) (sym e) (omega arith, omega arith)

pub refusal-stored : (o : Outcome) (r : Refusal) {result : ℕ} {before after : List ℕ} → Refuses o → r ≡ refusal_of o
    → AnswerStored (refused r.number r.beside) result before after → AnswerStored o result before after
unfolding refusal_of
refusal-stored o r {result} {before} {after} (refuses number k) e h =
    subst (λ (x : Refusal). AnswerStored (refused x.number x.beside) result before after) e h

pub summary_refusal_stored : (o : Outcome) (r : Refusal) {result : ℕ} {before after : List ℕ} → Refuses o → r ≡ refusal_of o
    → SummaryStored (refused r.number 0) result before after → SummaryStored o result before after
unfolding refusal_of
summary_refusal_stored o r {result} {before} {after} (refuses number k) e h =
    subst (λ (x : Refusal). SummaryStored (refused x.number 0) result before after) e h

-- by its variant
pub summary_stored_by : {a b : Result Summary SummaryRefusal} {result : ℕ} {before after : List ℕ} → a ≡ b
    → SummaryStored (summary_outcome b) result before after
    → SummaryStored (summary_outcome a) result before after
summary_stored_by {a} {b} {result} {before} {after} e h =
    subst (λ (x : Result Summary SummaryRefusal). SummaryStored (summary_outcome x) result before after) (sym e) h

-- ---- the writer's, which has no answer but its number

pub result-is : (o : Outcome) (r : Refusal) → r ≡ refusal_of o → r.number ≡ result_of o
unfolding refusal_of result_of
result-is (delivered ns) r e = ap (λ (x : Refusal). x.number) e
result-is (refused number beside) r e = ap (λ (x : Refusal). x.number) e
