-- Every number that is told of a line fits 32 bits, over a step whose answers are small. Assumes nothing.
use mathlib.Core.Path.{◌≡◌}
use mathlib.Core.List.{List, []}
use mathlib.Core.Option.{Option, none, some}
use Prim.Native.Nat.{ℕ, zero, suc, ◌<◌}
use native.Mathlib.Omega.{arith}
use lib.ListN.{length}
use Rattle.rules.specs.Refusals.{Outcome, delivered, refused}
use Rattle.rules.specs.declared.Layout.{Layout}
use Rattle.rules_demands.proofs.StageAnswers.{StageBounded, answers_bounded, beside_bounded}
use Rattle.rules_line.specs.Line.{LineLent, LineLeft, line_room, Step, step_at, turn_outcome, turn_index, line_turn, line_gate, turn_lent, onward, line_after}
use Rattle.rules_line.specs.Line.{line_behind_gate, line_over}
use Rattle.rules_line.proofs.Gates.{gate_open, gate_case}
use Rattle.rules_line.proofs.Turns.{turn_after}
use Rattle.line_turns.specs.Bounded.{BoundedStep}
use Rattle.line_turns.proofs.Counts.{at_bounded}
use Rattle.hca_answers.specs.Outcomes.{numbers_of, Small}
use Rattle.hca_answers.proofs.Fitting.{small-refused}
use Rattle.hca_encode.specs.EncodeLine.{IndexFits, LineSmall}

small-none : Small (delivered [])
unfolding Small numbers_of
small-none i = omega arith

-- what is told after n turns: the number beside a refusal, and a frame's index below n
record Fitting (n : ℕ) (x : LineLeft) : Type 0 where
  numbers : Small x.outcome
  index : (k : ℕ) → x.index ≡ some k → k < n
  refuses : (k : ℕ) (ns : List ℕ) → x.index ≡ some k → x.outcome ≡ delivered ns → ⊥

turn_small : (o : Outcome) → StageBounded o → Small (turn_outcome o)
unfolding turn_outcome
turn_small o (answers_bounded level boundary pairs bits _ _ _ _) = small-none
turn_small o (beside_bounded number beside h) = small-refused number beside h

turn_index_lem : (k : ℕ) (o : Outcome) (j : ℕ) → turn_index k o ≡ some j → j < suc k
unfolding turn_index
turn_index_lem k (delivered ns) j e = let z : ◌≡◌ {A = ℕ} 0 1 = cc e in absurd (omega arith)
turn_index_lem k (refused number beside) j e = let q : k ≡ j = cc e in omega arith

turn-refuses : (k : ℕ) (o : Outcome) (j : ℕ) (ns : List ℕ) → turn_index k o ≡ some j → turn_outcome o ≡ delivered ns → ⊥
unfolding turn_index turn_outcome
turn-refuses k (delivered ms) j ns e f = let z : ◌≡◌ {A = ℕ} 0 1 = cc e in omega arith
turn-refuses k (refused number beside) j ns e f = let z : ◌≡◌ {A = ℕ} 0 1 = cc f in omega arith

fitting_on : (n : ℕ) (i : Option ℕ) (x y : LineLeft) → Fitting n x → Fitting (suc n) y → Fitting (suc n) (onward i x y)
unfolding onward
fitting_on n none x y f g = g
fitting_on n (some k) x y f g = record { numbers = f.numbers; index = λ j e. (let h = f.index j e in omega arith); refuses = f.refuses }

module _ (step : Step) (bounded : BoundedStep step) (l : Layout) where
  after-fits : (t : LineLent) (n : ℕ) → Fitting n (line_after step l t n)
  unfolding line_after line_turn
  after-fits t zero = record {
    numbers = small-none;
    index = λ k e. (let z : ◌≡◌ {A = ℕ} 0 1 = cc e in absurd (omega arith));
    refuses = λ k ns e f. (let z : ◌≡◌ {A = ℕ} 0 1 = cc e in omega arith);
  }
  after-fits t (suc n) =
      let x = line_after step l t n in
      let o = (step_at step l n (turn_lent x)).outcome in
      fitting_on n x.index x (turn_after step l n x) (after-fits t n)
      (record { numbers = turn_small o (at_bounded step bounded l n (turn_lent x)); index = turn_index_lem n o; refuses = turn-refuses n o })

  module _ (count : ℕ) (t : LineLent) where
    abbrev Tells : LineLeft → Type 0
    Tells x = LineSmall x.outcome x.index

    kept_stores : (number : ℕ) (x : LineLeft) → Tells (line_behind_gate (some (refused number 0)) t x)
    unfolding line_behind_gate IndexFits
    kept_stores number x = record {
      numbers = small-refused number 0 (omega arith);
      index = λ k e. (let z : ◌≡◌ {A = ℕ} 0 1 = cc e in absurd (omega arith));
      refuses = λ k ns e f. (let z : ◌≡◌ {A = ℕ} 0 1 = cc f in omega arith);
    }

    open_stores : line_gate l count (line_room t) (length t.answers) t.tally ≡ none → Tells (line_behind_gate none t (line_after step l t count))
    unfolding line_behind_gate IndexFits
    open_stores a =
        let few = (gate_open l count (line_room t) (length t.answers) t.tally a).batch.few in
        let f = after-fits t count in
        record { numbers = f.numbers; index = λ k e. (let h = f.index k e in omega arith); refuses = λ k ns e d. f.refuses k ns e d }

    pub line_stores : Tells (line_over step l count t)
    unfolding line_over
    line_stores =
        let x = line_after step l t count in
        gate_case l count (line_room t) (length t.answers) t.tally (λ o. Tells (line_behind_gate o t x)) (kept_stores 1 x) (kept_stores 18 x)
        (kept_stores 2 x) open_stores
