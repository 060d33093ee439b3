-- What a call tells of its outcome, by the place where it left. Assumes nothing.
use mathlib.Core.Path.{◌≡◌, ◌∙◌, ap}
use mathlib.Core.List.{List}
use Prim.Native.Nat.{ℕ, ◌≤◌, ◌<◌}
use borrow.Author.Tests.{lt-ltb, le-ltb}
use lib.ListN.{length}
use Rattle.std.specs.Prelude.{Result}
use Rattle.rules.specs.Refusals.{Outcome, refused}
use Rattle.rules_files.specs.List.{ListLeft, list_left, list_written_outcome, write_list, EntriesLeft, entries_left, list_read_outcome, read_list, list_entry}
use Rattle.rules_files.specs.List.{list_summary}
use Rattle.rules_files.specs.declared.list.ListWriteRefusal.{ListWriteRefusal}
use Rattle.rules_files.specs.declared.list.ListReadRefusal.{ListReadRefusal}
use Rattle.hca_answers.specs.Outcomes.{result_of, AnswerStored}
use Rattle.hca_answers.proofs.Places.{stored_short}
use Rattle.hca_files.specs.Lists.{c_list_left, c_write_list, c_entries_left, c_entries_from, c_read_list, c_answer_left, c_list_entry, c_list_summary, SummaryStored}

pub write_stores : (n : ℕ) (entries list : List ℕ) (a : Result (Unit {0}) ListWriteRefusal) (result : ℕ) (after : List ℕ)
    → list_left a after ≡ write_list n entries list
    → result ≡ result_of (list_written_outcome a) → c_list_left result after ≡ c_write_list n entries list
unfolding c_write_list
write_stores n entries list a result after e q =
    ap (λ k. c_list_left k after) q ∙ ap (λ (x : ListLeft). c_list_left (result_of x.outcome) x.list) e

module _ (list entries answer : List ℕ) where
  pub read_short : length answer < 4 → c_entries_left 2 entries answer ≡ c_read_list list entries answer
  unfolding c_read_list c_entries_from result_of
  read_short h = rw (lt-ltb _ _ h) (ap (λ (xs : List ℕ). c_entries_left 2 entries xs) (stored_short (refused 2 0) answer h))

  pub read_stores : 4 ≤ length answer → (a : Result ℕ ListReadRefusal) (r : ℕ) (left after : List ℕ) → entries_left a left ≡ read_list list entries
      → AnswerStored (list_read_outcome a) r answer after → c_entries_left r left after ≡ c_read_list list entries answer
  unfolding c_read_list c_entries_from
  read_stores h a r left after e t = rw (le-ltb _ _ h, t.answered, t.shown) (ap (λ (x : EntriesLeft). c_entries_from x answer) e)

module _ (list : List ℕ) (frame : ℕ) (answer : List ℕ) where
  pub lookup_short : length answer < 4 → c_answer_left 2 answer ≡ c_list_entry list frame answer
  unfolding c_list_entry
  lookup_short h = rw (lt-ltb _ _ h)

  pub lookup_stores : 4 ≤ length answer → (o : Outcome) (r : ℕ) (after : List ℕ) → o ≡ list_entry list frame → AnswerStored o r answer after
      → c_answer_left r after ≡ c_list_entry list frame answer
  unfolding c_list_entry
  lookup_stores h o r after e t = rw (le-ltb _ _ h, t.answered, t.shown, e)

module _ (list answer : List ℕ) where
  pub summary_short : length answer < 3 → c_answer_left 2 answer ≡ c_list_summary list answer
  unfolding c_list_summary
  summary_short h = rw (lt-ltb _ _ h)

  pub summary_stores : 3 ≤ length answer → (o : Outcome) (r : ℕ) (after : List ℕ) → o ≡ list_summary list → SummaryStored o r answer after
      → c_answer_left r after ≡ c_list_summary list answer
  unfolding c_list_summary
  summary_stores h o r after e t = rw (le-ltb _ _ h, t.answered, t.shown, e)
