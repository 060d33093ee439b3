-- The frame stage by numbers and slices: what a call returns, answers and leaves in every lent buffer.
use Rattle.std.specs.Prelude.{List, cond, not, ℕ, ltb, ℤ, Float, length}
use Rattle.rules.specs.Refusals.{refused}
use Rattle.rules.specs.Stage.{StageLent, StageLeft, stage_kept, encode_frame}
use Rattle.hca_layout.specs.Layouts.{layout_of, is_layout}
use Rattle.hca_answers.specs.Outcomes.{result_of, answer_after}

-- what a call returns, answers and leaves
pub record CStageLeft : Type 0 where
  pub result : ℕ
  pub answer : List ℕ
  pub scaled : List Float
  pub codes : List ℤ
  pub factors : List ℕ
  pub side : List ℕ
  pub frame : List ℕ

abbrev pub c_stage_left : (result : ℕ) (answer : List ℕ) (scaled : List Float) (codes : List ℤ) (factors side frame : List ℕ) → CStageLeft
c_stage_left result answer scaled codes factors side frame = record {
  result = result;
  answer = answer;
  scaled = scaled;
  codes = codes;
  factors = factors;
  side = side;
  frame = frame;
}

-- what the stage left, with its outcome told
unfoldable pub c_stage_from : (x : StageLeft) (answer : List ℕ) → CStageLeft
c_stage_from x answer = c_stage_left (result_of x.outcome) (answer_after x.outcome answer) x.scaled x.codes x.factors x.side x.frame

-- refusal 1 where no layout is named, 2 where the answer is short, both with every buffer kept; else the stage
unfoldable pub c_encode_frame : (numbers kinds : List ℕ) (t : StageLent) (answer : List ℕ) → CStageLeft
c_encode_frame numbers kinds t answer =
    cond (not (is_layout numbers kinds)) (c_stage_from (stage_kept t (refused 1 0)) answer)
    (cond (ltb (length answer) 4) (c_stage_from (stage_kept t (refused 2 0)) answer)
    (c_stage_from (encode_frame (layout_of numbers kinds) t) answer))
