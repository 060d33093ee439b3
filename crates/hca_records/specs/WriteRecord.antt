-- The record writer by numbers and slices: what a call returns, answers and leaves in every lent buffer.
use Rattle.std.specs.Prelude.{List, cond, not, ℕ, ltb, ℤ, length, get_or}
use Rattle.rules.specs.Refusals.{refused}
use Rattle.rules.specs.Writer.{WriterLeft, writer_lent, write_record}
use Rattle.hca_layout.specs.Layouts.{layout_of, is_layout}
use Rattle.hca_answers.specs.Outcomes.{result_of, answer_after}

pub record CWriterLeft : Type 0 where
  pub result : ℕ
  pub answer : List ℕ
  pub frame : List ℕ

abbrev pub c_writer_left : (result : ℕ) (answer frame : List ℕ) → CWriterLeft
c_writer_left result answer frame = record { result = result; answer = answer; frame = frame }

unfoldable pub c_writer_from : (x : WriterLeft) (answer : List ℕ) → CWriterLeft
c_writer_from x answer = c_writer_left (result_of x.outcome) (answer_after x.outcome answer) x.frame

-- head: level, boundary. Refusal 1 where no layout is named, 2 where the answer or the head is short; else the writer
unfoldable pub c_write_record : (numbers kinds head factors side : List ℕ) (codes : List ℤ) (frame answer : List ℕ) → CWriterLeft
c_write_record numbers kinds head factors side codes frame answer =
    cond (not (is_layout numbers kinds)) (c_writer_from (record { outcome = refused 1 0; frame = frame }) answer)
    (cond (ltb (length answer) 4) (c_writer_from (record { outcome = refused 2 0; frame = frame }) answer)
    (cond (ltb (length head) 2) (c_writer_from (record { outcome = refused 2 0; frame = frame }) answer)
    (c_writer_from (write_record (layout_of numbers kinds) (writer_lent (get_or head 0 0) (get_or head 1 0) factors side codes frame)) answer)))
