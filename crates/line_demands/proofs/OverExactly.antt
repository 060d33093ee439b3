-- Request A5's refusals, over any step: 1, 18 and 2 come exactly when the request says, in this order; from 3 on exactly the single call's answer, with the
-- frame's index; no other number comes. Assumes nothing.
use mathlib.Core.Path.{◌≡◌, refl, sym, ◌∙◌, ap, subst}
use mathlib.Core.List.{List, [], ◌∷◌}
use mathlib.Core.Logic.{◌↔◌, ◌⊎◌, inl, inr}
use mathlib.Core.Option.{Option, none, some}
use mathlib.Core.Bool.{Bool, true, false, not}
use Prim.Native.Nat.{ℕ, ◌^◌, ◌<◌}
use native.Mathlib.Omega.{arith}
use borrow.Author.Tests.{not-true, not-false}
use types.Run.{OneOf}
use lib.ListN.{length}
use Rattle.buffers.proofs.Tests.{cond_both, not_true_false}
use Rattle.rules.specs.Layout.{legal_layout}
use Rattle.rules.specs.Refusals.{Outcome, delivered, refused}
use Rattle.rules.specs.declared.Layout.{Layout}
use Rattle.rules.proofs.Answers.{Numbered, numbered, never}
use Rattle.rules.proofs.Cuts.{by_order}
use Rattle.rules_demands.proofs.FoundLevel.{not-both}
use Rattle.rules_demands.proofs.Exactly.{beside_of, differ}
use Rattle.rules_line.specs.Line.{LineLent, LineLeft, line_room, batch_fits, line_has_room, line_gate, Step, line_kept, line_after, line_behind_gate, line_over}
use Rattle.rules_line.specs.Asked.{Batch, LineHasRoom}
use Rattle.rules_line.specs.declared.Tally.{Tally}
use Rattle.rules_line.proofs.Gates.{batch_true, batch_facts, room_true, room_facts}
use Rattle.line_demands.proofs.Standing.{single, answers_at, Stands, ran, ended}
use Rattle.line_demands.proofs.Singles.{StepFacts}
use Rattle.line_demands.proofs.Over.{Admits, over-after, standing, over_delivers, over_stops}

-- ---- what the statements name

-- a batch size above the limit, or a tally count above 2^63
abbrev pub BatchOver : (count : ℕ) (tally : Tally) → Type 0
BatchOver count tally = (65535 < count) ⊎ ((2 ^ 63 < tally.frames) ⊎ ((2 ^ 63 < tally.bits) ⊎ (2 ^ 63 < tally.pairs)))

-- every lent buffer is long enough
abbrev pub AllRoom : (l : Layout) (count : ℕ) (t : LineLent) → Type 0
AllRoom l count t = LineHasRoom l count (line_room t) (length t.answers)

-- the single call on each of the first k frames delivers
abbrev pub AllDeliver : (step : Step) (l : Layout) (t : LineLent) (k : ℕ) → Type 0
AllDeliver step l t k = (j : ℕ) → j < k → (single step l t j).outcome ≡ delivered (answers_at step l t j)

-- ---- tests and facts

or_late : (ns : List ℕ) (n : ℕ) → OneOf ns n → OneOf (1 ∷ 18 ∷ 2 ∷ ns) n
or_late [] n h = absurd h
or_late (x ∷ ns) n h = inr (inr (inr h))

over_false : (count : ℕ) (tally : Tally) → BatchOver count tally → batch_fits count tally ≡ false
over_false count tally (inl h) = not_true_false _ (λ e. omega (arith, (batch_facts count tally e).few))
over_false count tally (inr (inl h)) = not_true_false _ (λ e. omega (arith, (batch_facts count tally e).frames))
over_false count tally (inr (inr (inl h))) = not_true_false _ (λ e. omega (arith, (batch_facts count tally e).bits))
over_false count tally (inr (inr (inr h))) = not_true_false _ (λ e. omega (arith, (batch_facts count tally e).pairs))

false_over : (count : ℕ) (tally : Tally) → batch_fits count tally ≡ false → BatchOver count tally
false_over count tally e =
    by_order 65535 count inl
    (λ a. by_order (2 ^ 63) tally.frames (λ h. inr (inl h))
    (λ b. by_order (2 ^ 63) tally.bits (λ h. inr (inr (inl h)))
    (λ c. by_order (2 ^ 63) tally.pairs (λ h. inr (inr (inr h)))
    (λ d. absurd (not-both e (batch_true count tally (record { few = a; frames = b; bits = c; pairs = d })))))))

module _ (step : Step) (late : List ℕ) (Keeps Clears : ℕ → Type 0) (facts : StepFacts step late Keeps Clears) (l : Layout) (count : ℕ) (t : LineLent) where
  abbrev fits : Bool
  fits = batch_fits count t.tally

  abbrev room : Bool
  room = line_has_room l count (line_room t) (length t.answers)

  -- what each end has, every end has
  pub line_case : (P : LineLeft → Type 0) → (legal_layout l ≡ false → P (line_kept t (refused 1 0)))
      → (legal_layout l ≡ true → fits ≡ false → P (line_kept t (refused 18 0)))
      → (legal_layout l ≡ true → fits ≡ true → room ≡ false → P (line_kept t (refused 2 0)))
      → (Admits l count t → P (line_after step l t count)) → P (line_over step l count t)
  unfolding line_over line_gate line_behind_gate
  line_case P one batch two rest =
      let Q : Option Outcome → Type 0 = λ o. P (line_behind_gate o t (line_after step l t count)) in
      cond_both Q (not (legal_layout l)) (λ a. one (not-true _ a))
      (λ a. cond_both Q (not fits) (λ b. batch (not-false _ a) (not-true _ b))
      (λ b. cond_both Q (not room) (λ c. two (not-false _ a) (not-false _ b) (not-true _ c)) (λ c. rest (rw (a, b, c)))))

  -- behind the gate a refusal is one of the late ones
  from-frame : Admits l count t → Numbered late (line_after step l t count).outcome
  from-frame a n k e = by_index (line_over step l count t).index refl
    where
      said : (line_over step l count t).outcome ≡ refused n k
      said = ap (λ (x : LineLeft). x.outcome) (over-after step l count t a) ∙ e

      by_index : (i : Option ℕ) → (line_over step l count t).index ≡ i → OneOf late n
      by_index none i = never (sym (over_delivers step late Keeps Clears facts l count t a i).outcome ∙ said)
      by_index (some j) i =
          let s = over_stops step late Keeps Clears facts l count t a j i in
          let q : s.number ≡ n = cc (sym s.outcome ∙ said) in
          subst (OneOf late) q s.late

  -- Where a line refuses, the number is 1, 18, 2 or a late one.
  pub over-numbers : Numbered (1 ∷ 18 ∷ 2 ∷ late) (line_over step l count t).outcome
  over-numbers =
      let all : List ℕ = 1 ∷ 18 ∷ 2 ∷ late in
      line_case (λ x. Numbered all x.outcome) (λ _. numbered all 1 0 tt) (λ _ _. numbered all 18 0 tt)
      (λ _ _ _. numbered all 2 0 tt) (λ a n k e. or_late late n (from-frame a n k e))

  -- Refusal 1: the layout is outside the limits.
  pub over_one_exactly : (p : ℕ) → ((line_over step l count t).outcome ≡ refused 1 p) ↔ ((legal_layout l ≡ false) × (p ≡ 0))
  unfolding line_over line_gate line_behind_gate
  over_one_exactly p = (
    line_case (λ x. x.outcome ≡ refused 1 p → (legal_layout l ≡ false) × (p ≡ 0)) (λ a e. (a, sym (ap beside_of e)))
        (λ _ _ e. differ e (λ z. omega arith)) (λ _ _ _ e. differ e (λ z. omega arith))
        (λ a e. absurd (facts.not_early 1 (from-frame a 1 p e) (inl refl))),
    (λ x. rw (x.0, x.1)),
  )

  -- Refusal 18, between 1 and 2: a batch size above 65,535, or a tally count above 2^63, of a layout within the limits.
  pub over_eighteen_exactly : (p : ℕ) → ((line_over step l count t).outcome ≡ refused 18 p) ↔ ((legal_layout l ≡ true) × BatchOver count t.tally × (p ≡ 0))
  unfolding line_over line_gate line_behind_gate
  over_eighteen_exactly p = (
    line_case (λ x. x.outcome ≡ refused 18 p → (legal_layout l ≡ true) × BatchOver count t.tally × (p ≡ 0)) (λ _ e. differ e (λ z. omega arith))
        (λ a b e. (a, false_over count t.tally b, sym (ap beside_of e))) (λ _ _ _ e. differ e (λ z. omega arith))
        (λ a e. absurd (facts.not_early 18 (from-frame a 18 p e) (inr (inl refl)))),
    (λ x. let (a, b, q) = x in rw (a, over_false count t.tally b, q)),
  )

  -- Refusal 2: a lent buffer is too short, of a layout, a batch and a tally within the limits.
  pub over_two_exactly : (p : ℕ)
      → ((line_over step l count t).outcome ≡ refused 2 p) ↔ ((legal_layout l ≡ true) × Batch count t.tally × (AllRoom l count t → ⊥) × (p ≡ 0))
  unfolding line_over line_gate line_behind_gate
  over_two_exactly p = (
    line_case (λ x. x.outcome ≡ refused 2 p → (legal_layout l ≡ true) × Batch count t.tally × (AllRoom l count t → ⊥) × (p ≡ 0))
        (λ _ e. differ e (λ z. omega arith)) (λ _ _ e. differ e (λ z. omega arith))
        (λ a b c e. (a, batch_facts count t.tally b, (λ r. not-both c (room_true l count (line_room t) (length t.answers) r)), sym (ap beside_of e)))
        (λ a e. absurd (facts.not_early 2 (from-frame a 2 p e) (inr (inr refl)))),
    (λ x. let (a, b, c, q) = x in
        rw (a, batch_true count t.tally b, not_true_false room (λ r. c (room_facts l count (line_room t) (length t.answers) r)), q)),
  )

  -- ---- from 3 on

  -- a line that names a frame was let in
  named_admits : (k : ℕ) → (line_over step l count t).index ≡ some k → Admits l count t
  named_admits k =
      let other : none ≡ some k → Admits l count t = λ e. let z : ◌≡◌ {A = ℕ} 0 1 = cc e in absurd (omega arith) in
      line_case (λ x. x.index ≡ some k → Admits l count t) (λ _. other) (λ _ _. other) (λ _ _ _. other) (λ a _. a)

  before_by : (k : ℕ) → Stands step l t count (line_over step l count t) → (line_over step l count t).index ≡ some k → AllDeliver step l t k
  before_by k (ran i r) h = let z : ◌≡◌ {A = ℕ} 0 1 = cc (sym i ∙ h) in absurd (omega arith)
  before_by k (ended m g i j e) h = let q : m ≡ k = cc (sym i ∙ h) in subst (AllDeliver step l t) q e.before.each

  -- the frame that ended a line is the one that the single calls refuse first
  stops_by : (k n b : ℕ) → k < count → AllDeliver step l t k → (single step l t k).outcome ≡ refused n b → Stands step l t count (line_over step l count t)
      → ((line_over step l count t).outcome ≡ refused n b) × ((line_over step l count t).index ≡ some k)
  stops_by k n b h d e (ran i r) = never (sym (r.each k h) ∙ e)
  stops_by k n b h d e (ended m g i j w) =
      by_order m k (λ lt. never (sym (d m lt) ∙ w.refusal))
      (λ ge. by_order k m (λ lt. never (sym (w.before.each k lt) ∙ e))
      (λ le. let q : m ≡ k = omega arith in (w.outcome ∙ sym w.refusal ∙ ap (λ x. (single step l t x).outcome) q ∙ e, i ∙ ap some q)))

  -- From 3 on: a line is refused at frame k exactly where 1, 18 and 2 are passed, the single calls on the frames before it deliver and the single call on
  -- frame k is refused; the number and the number beside it are the single call's.
  pub over_stops_at : (k n b : ℕ) → (((line_over step l count t).outcome ≡ refused n b) × ((line_over step l count t).index ≡ some k))
      ↔ (Admits l count t × (k < count) × AllDeliver step l t k × ((single step l t k).outcome ≡ refused n b))
  over_stops_at k n b = (
    (λ x. let (o, i) = x in
        let a = named_admits k i in
        let s = over_stops step late Keeps Clears facts l count t a k i in
        (a, s.below, before_by k (standing step late Keeps Clears facts l count t a) i, s.refusal ∙ sym s.outcome ∙ o)),
    (λ x. let (a, h, d, e) = x in stops_by k n b h d e (standing step late Keeps Clears facts l count t a)),
  )
