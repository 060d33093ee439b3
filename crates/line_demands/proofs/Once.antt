-- A line's answer is told by its outcome and by the frame that is named, over any single call whose refusals are told apart: so two outcomes that a contract
-- allows coincide. Assumes nothing.
use mathlib.Core.Path.{◌≡◌, refl, sym, ◌∙◌, ap, ap₂}
use mathlib.Core.Option.{some, none}
use Prim.Native.Nat.{ℕ, zero, suc}
use native.Mathlib.Omega.{arith}
use Rattle.std.specs.Prelude.{Result, Ok, Err, ⊤}
use Rattle.rules.specs.Refusals.{Outcome, delivered, refused}
use Rattle.rules_line.specs.Line.{line_outcome_by, line_index, LineLeft}
use Rattle.rules_line.specs.declared.LineRefusal.{LineRefusal}
use Rattle.rules_line.specs.declared.LineRefusal.TheVariants.{BadLayout, BadBatch, ShortBuffer, Frame}

module _ {R : Type 0} (refusal : R → Outcome) (differ : (a b : R) → refusal a ≡ refusal b → a ≡ b) where
  -- an answer without a frame, by its number
  unnamed : Outcome → Result ⊤ (LineRefusal R)
  unnamed (delivered ns) = Ok tt
  unnamed (refused zero b) = Ok tt
  unnamed (refused (suc zero) b) = Err BadLayout
  unnamed (refused (suc (suc zero)) b) = Err ShortBuffer
  unnamed (refused (suc (suc (suc n))) b) = Err BadBatch

  unnamed_said : (a : Result ⊤ (LineRefusal R)) → none ≡ line_index a → unnamed (line_outcome_by refusal a) ≡ a
  unfolding line_index line_outcome_by unnamed
  unnamed_said (Ok done) e = refl
  unnamed_said (Err BadLayout) e = refl
  unnamed_said (Err BadBatch) e = refl
  unnamed_said (Err ShortBuffer) e = refl
  unnamed_said (Err (Frame k a)) e = let z : ◌≡◌ {A = ℕ} 0 1 = cc e in absurd (omega arith)

  -- different answers have different numbers or name different frames
  pub answers_differ_by : (a b : Result ⊤ (LineRefusal R)) → line_outcome_by refusal a ≡ line_outcome_by refusal b → line_index a ≡ line_index b → a ≡ b
  unfolding line_index line_outcome_by unnamed
  answers_differ_by (Ok done) b e i = ap unnamed e ∙ unnamed_said b i
  answers_differ_by (Err BadLayout) b e i = ap unnamed e ∙ unnamed_said b i
  answers_differ_by (Err BadBatch) b e i = ap unnamed e ∙ unnamed_said b i
  answers_differ_by (Err ShortBuffer) b e i = ap unnamed e ∙ unnamed_said b i
  answers_differ_by (Err (Frame j a)) (Err (Frame k b)) e i = let q : j ≡ k = cc i in ap₂ (λ n r. Err (Frame n r)) q (differ a b e)
  answers_differ_by (Err (Frame j a)) (Ok done) e i = let z : ◌≡◌ {A = ℕ} 0 1 = cc i in absurd (omega arith)
  answers_differ_by (Err (Frame j a)) (Err BadLayout) e i = let z : ◌≡◌ {A = ℕ} 0 1 = cc i in absurd (omega arith)
  answers_differ_by (Err (Frame j a)) (Err BadBatch) e i = let z : ◌≡◌ {A = ℕ} 0 1 = cc i in absurd (omega arith)
  answers_differ_by (Err (Frame j a)) (Err ShortBuffer) e i = let z : ◌≡◌ {A = ℕ} 0 1 = cc i in absurd (omega arith)

  -- what is left is one, and so is the answer
  pub once_by : (s x y : LineLeft) (a b : Result ⊤ (LineRefusal R)) → x ≡ s → y ≡ s
      → line_outcome_by refusal a ≡ x.outcome → line_index a ≡ x.index → line_outcome_by refusal b ≡ y.outcome → line_index b ≡ y.index → (x ≡ y) × (a ≡ b)
  once_by s x y a b p q e i f j =
      let z : x ≡ y = p ∙ sym q in
      (z, answers_differ_by a b (e ∙ ap (λ (w : LineLeft). w.outcome) z ∙ sym f) (i ∙ ap (λ (w : LineLeft). w.index) z ∙ sym j))
