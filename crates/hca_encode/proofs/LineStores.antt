-- What a call tells of its line, over any step, by the place where it left. Assumes nothing.
use mathlib.Core.Path.{◌≡◌, sym, ◌∙◌, ap, ap₂}
use mathlib.Core.List.{List}
use mathlib.Core.Bool.{true, false}
use mathlib.Core.Option.{Option}
use Prim.Native.Nat.{ℕ, ◌≤◌, ◌<◌}
use borrow.Author.Tests.{lt-ltb, le-ltb}
use lib.IntN.{ℤ}
use lib.Ieee.{Float}
use lib.ListN.{length}
use Rattle.rules.specs.Lent.{overwrite}
use Rattle.rules.specs.Refusals.{Outcome, refused}
use Rattle.rules.specs.declared.Layout.{Layout}
use Rattle.rules_line.specs.Line.{LineLeft, line_lent, left_with, batch_fits, Step, line_over}
use Rattle.rules_line.specs.declared.Tally.{Tally}
use Rattle.hca_layout.specs.Layouts.{layout_of, is_layout}
use Rattle.hca_answers.specs.Outcomes.{result_of, AnswerStored}
use Rattle.hca_answers.proofs.Places.{stored_short}
use Rattle.hca_encode.specs.EncodeLine.{CLineLeft, c_line_left, tally_in, counts_of, index_in, line_answer_after, c_line_from, c_line_over}

-- what the line answered and left, told, with its counts stored
pub line_stores_so : (o : Outcome) (i : Option ℕ) (u : Tally) (r : ℕ) (before after : List ℕ) (sp : List Float) (is : List ℕ) (sc : List Float) (co : List ℤ)
    (fa si fr an tally tally' : List ℕ) (x : LineLeft)
    → left_with o i u sp is sc co fa si fr an ≡ x → r ≡ result_of o → after ≡ line_answer_after o i before → tally' ≡ overwrite (counts_of u) tally
    → c_line_left r after sp is sc co fa si fr an tally' ≡ c_line_from x (counts_of x.tally) tally before
unfolding c_line_from
line_stores_so o i u r before after sp is sc co fa si fr an tally tally' x e p q s =
    rw (p, q, s) (ap (λ (y : LineLeft). c_line_from y (counts_of y.tally) tally before) e)

module _ (step : Step) (numbers kinds : List ℕ) (count : ℕ) (sp : List Float) (is : List ℕ) (sc : List Float) (co : List ℤ)
    (fa si fr an tally answer : List ℕ) where
  -- the answer after a refusal that keeps all
  abbrev Kept : ℕ → List ℕ → Type 0
  Kept r after = c_line_left r after sp is sc co fa si fr an tally ≡ c_line_over step numbers kinds count (line_lent sp is sc co fa si fr an) tally answer

  pub line_unnamed : (r : ℕ) (after : List ℕ) → is_layout numbers kinds ≡ false → AnswerStored (refused 1 0) r answer after → Kept r after
  unfolding c_line_over c_line_from index_in
  line_unnamed r after e h = rw (e, h.answered, h.shown)

  module _ (e : is_layout numbers kinds ≡ true) (u : Tally) (q : u ≡ tally_in tally) where
    pub line_batch : (r : ℕ) (after : List ℕ) → batch_fits count u ≡ false → AnswerStored (refused 18 0) r answer after → Kept r after
    unfolding c_line_over c_line_from index_in
    line_batch r after b h = let z : batch_fits count (tally_in tally) ≡ false = sym (ap (batch_fits count) q) ∙ b in rw (e, z, h.answered, h.shown)

    module _ (b : batch_fits count u ≡ true) where
      fits : batch_fits count (tally_in tally) ≡ true
      fits = sym (ap (batch_fits count) q) ∙ b

      pub line_few : (r : ℕ) (after : List ℕ) → length tally < 3 → AnswerStored (refused 2 0) r answer after → Kept r after
      unfolding c_line_over c_line_from index_in
      line_few r after k h = rw (e, fits, lt-ltb _ _ k, h.answered, h.shown)

      pub line_short : 3 ≤ length tally → length answer < 4 → Kept 2 answer
      unfolding c_line_over c_line_from index_in result_of
      line_short k h =
          rw (e, fits, le-ltb _ _ k, lt-ltb _ _ h) (ap (λ (xs : List ℕ). c_line_left 2 xs sp is sc co fa si fr an tally) (stored_short (refused 2 0) answer h))

      pub line_done : (l : Layout) (x : CLineLeft) → l ≡ layout_of numbers kinds → 3 ≤ length tally → 4 ≤ length answer
          → x ≡ c_line_from (line_over step l count (line_lent sp is sc co fa si fr an u)) (counts_of (line_over step l count
          (line_lent sp is sc co fa si fr an u)).tally)
          tally answer
          → x ≡ c_line_over step numbers kinds count (line_lent sp is sc co fa si fr an) tally answer
      unfolding c_line_over
      line_done l x w k h d =
          d ∙ ap₂ (λ m v. c_line_from (line_over step m count (line_lent sp is sc co fa si fr an v))
          (counts_of (line_over step m count (line_lent sp is sc co fa si fr an v)).tally) tally answer) w q
          ∙ rw (e, fits, le-ltb _ _ k, le-ltb _ _ h)
