-- What a call tells of its outcome, by the place where it left. Assumes nothing.
use mathlib.Core.Path.{◌≡◌, ◌∙◌, ap}
use mathlib.Core.List.{List}
use mathlib.Core.Bool.{true, false}
use Prim.Native.Nat.{ℕ, ◌≤◌, ◌<◌}
use borrow.Author.Tests.{lt-ltb, le-ltb}
use lib.IntN.{ℤ}
use lib.Ieee.{Float}
use lib.ListN.{length}
use Rattle.rules.specs.Refusals.{refused, stage_outcome}
use Rattle.rules.specs.Stage.{StageLent, StageLeft, stage_left, encode_frame}
use Rattle.rules.specs.declared.Layout.{Layout}
use Rattle.std.specs.Prelude.{Result}
use Rattle.rules.specs.declared.Delivery.{Delivery}
use Rattle.rules.specs.declared.StageRefusal.{StageRefusal}
use Rattle.hca_layout.specs.Layouts.{layout_of, is_layout}
use Rattle.hca_answers.specs.Outcomes.{result_of, AnswerStored}
use Rattle.hca_answers.proofs.Places.{stored_short}
use Rattle.hca_encode.specs.EncodeFrame.{CStageLeft, c_stage_left, c_stage_from, c_encode_frame}

-- what the stage answered and left, told
pub encode_stores : (a : Result Delivery StageRefusal) (r : ℕ) (before after : List ℕ) (scaled : List Float) (codes : List ℤ)
    (factors side frame : List ℕ) (x : StageLeft)
    → stage_left a scaled codes factors side frame ≡ x → AnswerStored (stage_outcome a) r before after
    → c_stage_left r after scaled codes factors side frame ≡ c_stage_from x before
unfolding c_stage_from
encode_stores a r before after scaled codes factors side frame x e t =
    rw (t.answered, t.shown) (ap (λ (y : StageLeft). c_stage_from y before) e)

module _ (numbers kinds : List ℕ) (t : StageLent) (answer : List ℕ) where
  pub encode_unnamed : (r : ℕ) (after : List ℕ) → is_layout numbers kinds ≡ false → AnswerStored (refused 1 0) r answer after
      → c_stage_left r after t.scaled t.codes t.factors t.side t.frame ≡ c_encode_frame numbers kinds t answer
  unfolding c_encode_frame c_stage_from
  encode_unnamed r after e h = rw (e, h.answered, h.shown)

  module _ (e : is_layout numbers kinds ≡ true) where
    pub encode_short : length answer < 4 → c_stage_left 2 answer t.scaled t.codes t.factors t.side t.frame ≡ c_encode_frame numbers kinds t answer
    unfolding c_encode_frame c_stage_from result_of
    encode_short h = rw (e, lt-ltb _ _ h) (ap (λ (xs : List ℕ). c_stage_left 2 xs t.scaled t.codes t.factors t.side t.frame)
        (stored_short (refused 2 0) answer h))

    pub encode_done : (l : Layout) (x : CStageLeft) → l ≡ layout_of numbers kinds → 4 ≤ length answer → x ≡ c_stage_from (encode_frame l t) answer → x
        ≡ c_encode_frame numbers kinds t answer
    unfolding c_encode_frame
    encode_done l x q h d = d ∙ rw (e, le-ltb _ _ h, q)
