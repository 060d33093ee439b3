-- The header's reader by numbers and slices: what a call returns, answers and leaves in every lent buffer.
use Rattle.std.specs.Prelude.{List, cond, ℕ, ltb, length, Option, Some, None, Result, Err}
use Rattle.rules.specs.Lent.{overwrite}
use Rattle.rules_files.specs.HeaderReading.{read_header, header_read_outcome, header_layout}
use Rattle.rules_files.specs.declared.header.FileHeader.{FileHeader}
use Rattle.rules_files.specs.declared.header.HeaderReadRefusal.{HeaderReadRefusal}
use Rattle.rules_files.specs.declared.header.HeaderReadRefusal.TheVariants.{ShortBuffer}
use Rattle.rules_files.specs.declared.header.LoopFields.{LoopFields}
use Rattle.hca_answers.specs.Outcomes.{result_of, answer_after}

pub record CHeaderReadLeft : Type 0 where
  pub result : ℕ
  pub layout : List ℕ
  pub answer : List ℕ

abbrev pub c_header_read_left : (result : ℕ) (layout answer : List ℕ) → CHeaderReadLeft
c_header_read_left result layout answer = record { result = result; layout = layout; answer = answer }

-- the layout's numbers over the lent one's front, the stream's over the answer's; a refusal has none of the first, and 0 for the second
unfoldable pub c_header_read_from : (a : Result FileHeader HeaderReadRefusal) (layout answer : List ℕ) → CHeaderReadLeft
c_header_read_from a layout answer =
    c_header_read_left (result_of (header_read_outcome a)) (overwrite (header_layout a) layout) (answer_after (header_read_outcome a) answer)

-- refusal 2 first where the answer has under eight places, which stays as it was, or the layout under seven
unfoldable pub c_read_header : (header layout answer : List ℕ) → CHeaderReadLeft
c_read_header header layout answer =
    cond (ltb (length answer) 8) (c_header_read_left 2 layout answer)
    (cond (ltb (length layout) 7) (c_header_read_from (Err ShortBuffer) layout answer) (c_header_read_from (read_header header) layout answer))

-- a loop's numbers, 0 without one
unfoldable pub loop_flag : (loop : Option LoopFields) → ℕ
loop_flag None = 0
loop_flag (Some f) = 1

unfoldable pub loop_or : (loop : Option LoopFields) → LoopFields
loop_or None = record { start_frame = 0; end_frame = 0; delay = 0; padding = 0 }
loop_or (Some f) = f
