-- Demand 1 for the record writer as it is called: refusals 1, 2 and 15 come exactly when the scope says. Assumes nothing.
use mathlib.Core.Path.{◌≡◌, sym, ap}
use mathlib.Core.List.{[], ◌∷◌}
use mathlib.Core.Logic.{◌↔◌}
use mathlib.Core.Bool.{Bool, true, false, not}
use Prim.Native.Nat.{ℕ, ◌<◌}
use native.Mathlib.Omega.{arith}
use borrow.Author.Tests.{ltb-true, lt-ltb, not-true, not-false}
use lib.Dec.{ltb}
use lib.ListN.{length}
use Rattle.buffers.proofs.Tests.{cond_both}
use Rattle.rules.specs.Layout.{legal_layout}
use Rattle.rules.specs.Record.{legal_record}
use Rattle.rules.specs.Fields.{fields}
use Rattle.rules.specs.Frame.{field_end}
use Rattle.rules.specs.Refusals.{Outcome, delivered, refused}
use Rattle.rules.specs.Writer.{WriterLent, WriterLeft, writer_has_room, lent_record, record_written, write_record}
use Rattle.rules.specs.declared.Layout.{Layout}
use Rattle.rules_demands.proofs.Exactly.{number_of, beside_of, differ}

module _ (l : Layout) (t : WriterLent) where
  -- the test of the record that is lent, and the sum of its field lengths
  abbrev lent_legal : Bool
  lent_legal = legal_record l t.level t.boundary t.factors t.side t.codes

  abbrev lent_bits : ℕ
  lent_bits = length (fields l (lent_record l t))

  -- the answer is one of five
  judged : (P : Outcome → Type 0) → (legal_layout l ≡ false → P (refused 1 0)) → (legal_layout l ≡ true → writer_has_room l t ≡ false → P (refused 2 0))
      → (legal_layout l ≡ true → writer_has_room l t ≡ true → lent_legal ≡ false → P (refused 15 0))
      → (legal_layout l ≡ true → writer_has_room l t ≡ true → lent_legal ≡ true → field_end l < lent_bits → P (refused 7 lent_bits))
      → ((a b c : ℕ) → P (delivered (a ∷ b ∷ c ∷ []))) → P (write_record l t).outcome
  unfolding write_record record_written
  judged P one two fifteen seven rest =
      let Q : WriterLeft → Type 0 = λ x. P x.outcome in
      cond_both Q (not (legal_layout l)) (λ a. one (not-true _ a))
      (λ a. cond_both Q (not (writer_has_room l t)) (λ b. two (not-false _ a) (not-true _ b))
      (λ b. cond_both Q (not lent_legal) (λ c. fifteen (not-false _ a) (not-false _ b) (not-true _ c))
      (λ c. cond_both Q (ltb (field_end l) lent_bits) (λ d. seven (not-false _ a) (not-false _ b) (not-false _ c) (ltb-true _ _ d))
      (λ _. rest _ _ _))))

  -- Refusal 1: the layout is outside the limits.
  pub write_one_exactly : (p : ℕ) → ((write_record l t).outcome ≡ refused 1 p) ↔ ((legal_layout l ≡ false) × (p ≡ 0))
  unfolding write_record
  write_one_exactly p = (
    judged (λ o. o ≡ refused 1 p → (legal_layout l ≡ false) × (p ≡ 0)) (λ a e. (a, sym (ap beside_of e))) (λ _ _ e. differ e (λ z. omega arith))
        (λ _ _ _ e. differ e (λ z. omega arith)) (λ _ _ _ _ e. differ e (λ z. omega arith)) (λ _ _ _ e. differ e (λ z. omega arith)),
    (λ x. rw (x.0, x.1)),
  )

  -- Refusal 2: a lent buffer is too short.
  pub write_two_exactly : (p : ℕ) → ((write_record l t).outcome ≡ refused 2 p) ↔ ((legal_layout l ≡ true) × (writer_has_room l t ≡ false) × (p ≡ 0))
  unfolding write_record
  write_two_exactly p = (
    judged (λ o. o ≡ refused 2 p → (legal_layout l ≡ true) × (writer_has_room l t ≡ false) × (p ≡ 0)) (λ _ e. differ e (λ z. omega arith))
        (λ a b e. (a, b, sym (ap beside_of e)))
        (λ _ _ _ e. differ e (λ z. omega arith)) (λ _ _ _ _ e. differ e (λ z. omega arith)) (λ _ _ _ e. differ e (λ z. omega arith)),
    (λ x. let (a, b, q) = x in rw (a, b, q)),
  )

  -- Refusal 15: the record is not legal, or something unwritten is not 0.
  pub fifteen_exactly : (p : ℕ) → ((write_record l t).outcome ≡ refused 15 p)
      ↔ ((legal_layout l ≡ true) × (writer_has_room l t ≡ true) × (legal_record l t.level t.boundary t.factors t.side t.codes ≡ false) × (p ≡ 0))
  unfolding write_record record_written
  fifteen_exactly p = (
    judged (λ o. o ≡ refused 15 p → (legal_layout l ≡ true) × (writer_has_room l t ≡ true) × (lent_legal ≡ false) × (p ≡ 0)) (λ _ e. differ e (λ z. omega arith))
        (λ _ _ e. differ e (λ z. omega arith)) (λ a b c e. (a, b, c, sym (ap beside_of e))) (λ _ _ _ _ e. differ e (λ z. omega arith))
        (λ _ _ _ e. differ e (λ z. omega arith)),
    (λ x. let (a, b, c, q) = x in rw (a, b, c, q)),
  )

  -- no refusal has the number 0
  pub write_number : (n k : ℕ) → (write_record l t).outcome ≡ refused n k → 0 < n
  write_number n k =
      judged (λ o. o ≡ refused n k → 0 < n) (λ _ e. let z = ap number_of e in omega arith) (λ _ _ e. let z = ap number_of e in omega arith)
      (λ _ _ _ e. let z = ap number_of e in omega arith) (λ _ _ _ _ e. let z = ap number_of e in omega arith)
      (λ _ _ _ e. let z : ◌≡◌ {A = ℕ} 0 1 = cc e in absurd (omega arith))
