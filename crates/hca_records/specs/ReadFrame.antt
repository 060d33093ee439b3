-- The strict reader by numbers and slices: what a call returns, answers and leaves in every lent buffer.
use Rattle.std.specs.Prelude.{List, cond, not, ℕ, ltb, ℤ, length}
use Rattle.rules.specs.Refusals.{refused}
use Rattle.rules.specs.Reader.{ReaderLent, ReaderLeft, reader_kept, read_frame}
use Rattle.hca_layout.specs.Layouts.{layout_of, is_layout}
use Rattle.hca_answers.specs.Outcomes.{result_of, answer_after}

pub record CReaderLeft : Type 0 where
  pub result : ℕ
  pub answer : List ℕ
  pub factors : List ℕ
  pub side : List ℕ
  pub codes : List ℤ

abbrev pub c_reader_left : (result : ℕ) (answer factors side : List ℕ) (codes : List ℤ) → CReaderLeft
c_reader_left result answer factors side codes = record { result = result; answer = answer; factors = factors; side = side; codes = codes }

unfoldable pub c_reader_from : (x : ReaderLeft) (answer : List ℕ) → CReaderLeft
c_reader_from x answer = c_reader_left (result_of x.outcome) (answer_after x.outcome answer) x.factors x.side x.codes

-- refusal 1 where no layout is named, 2 where the answer is short, both with every buffer kept; else the reader
unfoldable pub c_read_frame : (numbers kinds : List ℕ) (t : ReaderLent) (answer : List ℕ) → CReaderLeft
c_read_frame numbers kinds t answer =
    cond (not (is_layout numbers kinds)) (c_reader_from (reader_kept t (refused 1 0)) answer)
    (cond (ltb (length answer) 4) (c_reader_from (reader_kept t (refused 2 0)) answer)
    (c_reader_from (read_frame (layout_of numbers kinds) t) answer))
