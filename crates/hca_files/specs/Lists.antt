-- The list's calls by numbers and slices: what a call returns, answers and leaves in every lent buffer.
use Rattle.std.specs.Prelude.{◌≡◌, List, cond, ℕ, ltb, length}
use Rattle.rules.specs.Refusals.{Outcome, refused}
use Rattle.rules.specs.Lent.{overwrite}
use Rattle.rules_files.specs.List.{write_list, EntriesLeft, read_list, list_entry, list_summary}
use Rattle.hca_answers.specs.Outcomes.{result_of, numbers_of, answer_after}

-- THE WRITER has no answer but its result
pub record CListLeft : Type 0 where
  pub result : ℕ
  pub list : List ℕ

abbrev pub c_list_left : (result : ℕ) (list : List ℕ) → CListLeft
c_list_left result list = record { result = result; list = list }

unfoldable pub c_write_list : (frames : ℕ) (entries list : List ℕ) → CListLeft
c_write_list frames entries list = c_list_left (result_of (write_list frames entries list).outcome) (write_list frames entries list).list

-- THE READER. Its answer: the frames
pub record CEntriesLeft : Type 0 where
  pub result : ℕ
  pub entries : List ℕ
  pub answer : List ℕ

abbrev pub c_entries_left : (result : ℕ) (entries answer : List ℕ) → CEntriesLeft
c_entries_left result entries answer = record { result = result; entries = entries; answer = answer }

unfoldable pub c_entries_from : (x : EntriesLeft) (answer : List ℕ) → CEntriesLeft
c_entries_from x answer = c_entries_left (result_of x.outcome) x.entries (answer_after x.outcome answer)

-- refusal 2 where the answer is short, first; else the reader
unfoldable pub c_read_list : (list entries answer : List ℕ) → CEntriesLeft
c_read_list list entries answer =
    cond (ltb (length answer) 4) (c_entries_from (record { outcome = refused 2 0; entries = entries }) answer)
    (c_entries_from (read_list list entries) answer)

-- THE LOOKUP AND THE SUMMARY. Their answers: level, boundary, pairs, bits; highest level, most pairs, total of bits
pub record CAnswerLeft : Type 0 where
  pub result : ℕ
  pub answer : List ℕ

abbrev pub c_answer_left : (result : ℕ) (answer : List ℕ) → CAnswerLeft
c_answer_left result answer = record { result = result; answer = answer }

unfoldable pub c_list_entry : (list : List ℕ) (frame : ℕ) (answer : List ℕ) → CAnswerLeft
c_list_entry list frame answer =
    cond (ltb (length answer) 4) (c_answer_left 2 answer) (c_answer_left (result_of (list_entry list frame)) (answer_after (list_entry list frame) answer))

unfoldable pub c_list_summary : (list answer : List ℕ) → CAnswerLeft
c_list_summary list answer =
    cond (ltb (length answer) 3) (c_answer_left 2 answer) (c_answer_left (result_of (list_summary list)) (overwrite (numbers_of (list_summary list)) answer))

-- result and a summary's answer tell this outcome, in an answer that is long enough
pub record SummaryStored (o : Outcome) (result : ℕ) (before after : List ℕ) : Type 0 where
  pub answered : result ≡ result_of o
  pub shown : after ≡ overwrite (numbers_of o) before
