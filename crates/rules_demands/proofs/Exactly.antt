-- Demand 1 for the stage as it is called: refusals 1 to 4 come exactly when the scope says, each with its number beside it. Assumes nothing.
use mathlib.Core.Path.{◌≡◌, sym, ap}
use mathlib.Core.List.{List, [], ◌∷◌}
use mathlib.Core.Option.{Option}
use mathlib.Core.Logic.{◌↔◌}
use mathlib.Core.Bool.{Bool, true, false, not}
use Prim.Native.Nat.{ℕ, zero, suc, ◌+◌, ◌≤◌, ◌<◌}
use native.Mathlib.Omega.{arith}
use borrow.Author.Tests.{ltb-true, ltb-false, lt-ltb, le-ltb, not-true, not-false}
use lib.Dec.{ltb}
use lib.ListN.{length}
use Rattle.buffers.specs.Walk.{first_from, first}
use Rattle.buffers.proofs.Tests.{cond_both}
use Rattle.rules.specs.Layout.{legal_layout, spectrum_length, side_length}
use Rattle.rules.specs.Fields.{fields}
use Rattle.rules.specs.Frame.{field_end}
use Rattle.rules.specs.Refusals.{Outcome, delivered, refused}
use Rattle.rules.specs.Stage.{StageLent, StageLeft, behind_gate, stage_room, stage_has_room, bad_intensity, bad_spectrum, gate, Analysis, stage_record, delivery}
use Rattle.rules.specs.Stage.{after_packing, after_level, encode_frame}
use Rattle.rules.specs.declared.Layout.{Layout}
use Rattle.rules.proofs.Cuts.{by_order}
use Rattle.rules_demands.proofs.FoundLevel.{not-both}
use Rattle.rules_demands.proofs.StageAnswers.{Passes, analysis_by, level_by, pairs_by, boundary_by, bits_by, passes, too_long, delivers}

-- ---- the first index with a property

-- i is the first of n with p: below n, p there, not before it
pub record FirstAt (p : ℕ → Bool) (n i : ℕ) : Type 0 where
  pub below : i < n
  pub there : p i ≡ true
  pub before : (j : ℕ) → j < i → p j ≡ false

-- none of n has p
abbrev pub None : (ℕ → Bool) → ℕ → Type 0
None p n = (j : ℕ) → j < n → p j ≡ false

-- where a search from i on among k ends
record Searched (p : ℕ → Bool) (i k r : ℕ) : Type 0 where
  from : i ≤ r
  within : r ≤ i + k
  there : r < i + k → p r ≡ true
  before : (j : ℕ) → i ≤ j → j < r → p j ≡ false

searched : (p : ℕ → Bool) (i k : ℕ) → Searched p i k (first_from p i k)
unfolding first_from
searched p i zero = record { from = omega arith; within = omega arith; there = λ h. absurd (omega arith); before = λ j g h. absurd (omega arith) }
searched p i (suc k) =
    cond_both (Searched p i (suc k)) (p i)
    (λ e. record { from = omega arith; within = omega arith; there = λ _. e; before = λ j g h. absurd (omega arith) })
    (λ e. let s = searched p (suc i) k in record {
      from = omega (arith, s.from);
      within = omega (arith, s.within);
      there = λ h. s.there (omega arith);
      before = λ j g h. by_order j (suc i) (λ lt. let z : j ≡ i = omega arith in rw z e) (λ ge. s.before j ge h);
    })

module _ (p : ℕ → Bool) (n : ℕ) where
  pub first-at : first p n < n → FirstAt p n (first p n)
  first-at h = let s = searched p 0 n in record { below = h; there = s.there (omega arith); before = λ j g. s.before j (omega arith) g }

  pub first_passed : n ≤ first p n → None p n
  first_passed h j g = (searched p 0 n).before j (omega arith) (omega arith)

  pub first-none : None p n → n ≤ first p n
  first-none h = by_order (first p n) n (λ lt. absurd (not-both (h (first p n) lt) (first-at lt).there)) (λ ge. ge)

  pub at_first : (i : ℕ) → FirstAt p n i → first p n ≡ i
  at_first i f =
      let s = searched p 0 n in
      by_order (first p n) i
      (λ lt. absurd (not-both (f.before (first p n) lt) (s.there (omega (arith, f.below)))))
      (λ ge. by_order i (first p n) (λ lt. absurd (not-both (s.before i (omega arith) lt) f.there)) (λ le. omega arith))

-- ---- an outcome's number, 0 for a delivery, and the number beside it

abbrev pub number_of : Outcome → ℕ
number_of (delivered ns) = 0
number_of (refused n k) = n

abbrev pub beside_of : Outcome → ℕ
beside_of (delivered ns) = 0
beside_of (refused n k) = k

-- two refusals with different numbers differ
pub differ : {A : Type 0} {o : Outcome} {n k : ℕ} → o ≡ refused n k → (number_of o ≡ n → ⊥) → A
differ e h = absurd (h (ap number_of e))

-- ---- THE STAGE

-- nothing of the input is bad: the layout, the room, every intensity and every spectrum value
pub record Good (l : Layout) (t : StageLent) : Type 0 where
  pub layout : legal_layout l ≡ true
  pub room : stage_has_room l (stage_room t) ≡ true
  pub intensities : None (bad_intensity l t.intensities) (side_length l)
  pub spectra : None (bad_spectrum t.spectra) (spectrum_length l)

pub good_passes : (l : Layout) (t : StageLent) → Good l t → Passes l t
good_passes l t g = record {
  layout = g.layout;
  room = g.room;
  intensities = first-none (bad_intensity l t.intensities) (side_length l) g.intensities;
  spectra = first-none (bad_spectrum t.spectra) (spectrum_length l) g.spectra;
}

pub passes_good : (l : Layout) (t : StageLent) → Passes l t → Good l t
passes_good l t k = record {
  layout = k.layout;
  room = k.room;
  intensities = first_passed (bad_intensity l t.intensities) (side_length l) k.intensities;
  spectra = first_passed (bad_spectrum t.spectra) (spectrum_length l) k.spectra;
}

module _ (l : Layout) (t : StageLent) where
  -- what is answered behind a gate
  abbrev Behind : (Outcome → Type 0) → Option Outcome → Type 0
  Behind P g = P (behind_gate g t (after_level l (analysis_by l t))).outcome

  -- the answer is one of five
  judged : (P : Outcome → Type 0) → (legal_layout l ≡ false → P (refused 1 0))
      → (legal_layout l ≡ true → stage_has_room l (stage_room t) ≡ false → P (refused 2 0))
      → (legal_layout l ≡ true → stage_has_room l (stage_room t) ≡ true → (i : ℕ) → FirstAt (bad_intensity l t.intensities) (side_length l) i → P (refused 3 i))
      → (legal_layout l ≡ true → stage_has_room l (stage_room t) ≡ true → None (bad_intensity l t.intensities) (side_length l)
      → (i : ℕ) → FirstAt (bad_spectrum t.spectra) (spectrum_length l) i → P (refused 4 i))
      → (Good l t → P (after_level l (analysis_by l t)).outcome) → P (encode_frame l t).outcome
  unfolding encode_frame gate behind_gate
  judged P one two three four rest =
      let i : ℕ = first (bad_intensity l t.intensities) (side_length l) in
      let s : ℕ = first (bad_spectrum t.spectra) (spectrum_length l) in
      cond_both (Behind P) (not (legal_layout l)) (λ a. one (not-true _ a))
      (λ a. cond_both (Behind P) (not (stage_has_room l (stage_room t))) (λ b. two (not-false _ a) (not-true _ b))
      (λ b. cond_both (Behind P) (ltb i (side_length l)) (λ c. three (not-false _ a) (not-false _ b) i (first-at _ _ (ltb-true _ _ c)))
      (λ c. let none = first_passed (bad_intensity l t.intensities) (side_length l) (ltb-false _ _ c) in
      cond_both (Behind P) (ltb s (spectrum_length l)) (λ d. four (not-false _ a) (not-false _ b) none s (first-at _ _ (ltb-true _ _ d)))
      (λ d. rest (record { layout = not-false _ a; room = not-false _ b; intensities = none; spectra = first_passed _ _ (ltb-false _ _ d) })))))

  -- what is refused after that has a number above 4
  settled_late : (m : Analysis) (n k : ℕ) → (after_level l m).outcome ≡ refused n k → 5 ≤ n
  unfolding after_level after_packing delivery
  settled_late m n k =
      let P : StageLeft → Type 0 = λ x. x.outcome ≡ refused n k → 5 ≤ n in
      cond_both P (ltb 254 m.found.level) (λ _ e. let z = ap number_of e in omega arith)
      (λ _. cond_both P (ltb (field_end l) (length (fields l (stage_record l m)))) (λ _ e. let z = ap number_of e in omega arith)
      (λ _ e. let z : ◌≡◌ {A = ℕ} 0 1 = cc e in absurd (omega arith)))

  -- so where nothing of the input is bad
  pub good_late : Good l t → (n k : ℕ) → (encode_frame l t).outcome ≡ refused n k → 5 ≤ n
  good_late g n k =
      judged (λ o. o ≡ refused n k → 5 ≤ n) (λ a _. absurd (not-both a g.layout)) (λ _ b _. absurd (not-both b g.room))
      (λ _ _ i f _. absurd (not-both (g.intensities i f.below) f.there))
      (λ _ _ _ i f _. absurd (not-both (g.spectra i f.below) f.there)) (λ _ e. settled_late (analysis_by l t) n k e)

  -- Refusal 1: the layout is outside the limits.
  pub one_exactly : (p : ℕ) → ((encode_frame l t).outcome ≡ refused 1 p) ↔ ((legal_layout l ≡ false) × (p ≡ 0))
  unfolding encode_frame gate behind_gate
  one_exactly p = (
    judged (λ o. o ≡ refused 1 p → (legal_layout l ≡ false) × (p ≡ 0)) (λ a e. (a, sym (ap beside_of e)))
        (λ _ _ e. differ e (λ z. omega arith)) (λ _ _ _ _ e. differ e (λ z. omega arith)) (λ _ _ _ _ _ e. differ e (λ z. omega arith))
        (λ _ e. absurd (omega (arith, settled_late (analysis_by l t) 1 p e))),
    (λ x. rw (x.0, x.1)),
  )

  -- Refusal 2: a lent buffer is too short, of a layout within the limits.
  pub two_exactly : (p : ℕ) → ((encode_frame l t).outcome ≡ refused 2 p) ↔ ((legal_layout l ≡ true) × (stage_has_room l (stage_room t) ≡ false) × (p ≡ 0))
  unfolding encode_frame gate behind_gate
  two_exactly p = (
    judged (λ o. o ≡ refused 2 p → (legal_layout l ≡ true) × (stage_has_room l (stage_room t) ≡ false) × (p ≡ 0))
        (λ _ e. differ e (λ z. omega arith)) (λ a b e. (a, b, sym (ap beside_of e))) (λ _ _ _ _ e. differ e (λ z. omega arith))
        (λ _ _ _ _ _ e. differ e (λ z. omega arith)) (λ _ e. absurd (omega (arith, settled_late (analysis_by l t) 2 p e))),
    (λ x. let (a, b, q) = x in rw (a, b, q)),
  )

  -- Refusal 3: a secondary's intensity is above 15; beside it the index of the first.
  pub three_exactly : (i : ℕ) → ((encode_frame l t).outcome ≡ refused 3 i)
      ↔ ((legal_layout l ≡ true) × (stage_has_room l (stage_room t) ≡ true) × FirstAt (bad_intensity l t.intensities) (side_length l) i)
  unfolding encode_frame gate behind_gate
  three_exactly i = (
    judged (λ o. o ≡ refused 3 i → (legal_layout l ≡ true) × (stage_has_room l (stage_room t) ≡ true) × FirstAt (bad_intensity l t.intensities) (side_length l) i)
        (λ _ e. differ e (λ z. omega arith)) (λ _ _ e. differ e (λ z. omega arith))
        (λ a b j f e. let z : j ≡ i = ap beside_of e in (a, b, rw z at f))
        (λ _ _ _ _ _ e. differ e (λ z. omega arith)) (λ _ e. absurd (omega (arith, settled_late (analysis_by l t) 3 i e))),
    (λ x. let (a, b, f) = x in rw (a, b, at_first _ _ i f, lt-ltb i (side_length l) f.below)),
  )

  -- Refusal 4: a spectrum value is NaN or infinite; beside it the index of the first.
  pub four_exactly : (i : ℕ) → ((encode_frame l t).outcome ≡ refused 4 i)
      ↔ ((legal_layout l ≡ true) × (stage_has_room l (stage_room t) ≡ true) × None (bad_intensity l t.intensities) (side_length l)
      × FirstAt (bad_spectrum t.spectra) (spectrum_length l) i)
  unfolding encode_frame gate behind_gate
  four_exactly i = (
    judged (λ o. o ≡ refused 4 i → (legal_layout l ≡ true) × (stage_has_room l (stage_room t) ≡ true) × None (bad_intensity l t.intensities) (side_length l)
        × FirstAt (bad_spectrum t.spectra) (spectrum_length l) i)
        (λ _ e. differ e (λ z. omega arith)) (λ _ _ e. differ e (λ z. omega arith)) (λ _ _ _ _ e. differ e (λ z. omega arith))
        (λ a b n j f e. let z : j ≡ i = ap beside_of e in (a, b, n, rw z at f)) (λ _ e. absurd (omega (arith, settled_late (analysis_by l t) 4 i e))),
    (λ x. let (a, b, n, f) = x in
        rw (a, b, le-ltb _ _ (first-none (bad_intensity l t.intensities) (side_length l) n), at_first _ _ i f, lt-ltb i (spectrum_length l) f.below)),
  )

  -- ---- refusal 7 and the delivery, of every call

  -- Refusal 7: nothing of the input is bad, a level is found and the fields do not fit; beside it the sum of their lengths.
  pub seven_exactly : (n : ℕ) → ((encode_frame l t).outcome ≡ refused 7 n) ↔ (Good l t × (level_by l t ≤ 254) × (field_end l < bits_by l t) × (n ≡ bits_by l t))
  seven_exactly n = (
    (λ e. let k = passes l t (rw e (omega arith)) in let (h, g, q) = (too_long l t n k).0 e in (passes_good l t k, h, g, q)),
    (λ x. let (k, h, g, q) = x in (too_long l t n (good_passes l t k)).1 (h, g, q)),
  )

  -- A frame comes: nothing of the input is bad, a level is found and the fields fit; the answer is level, boundary, pairs and the sum of their lengths.
  pub delivered_exactly : (ns : List ℕ) → ((encode_frame l t).outcome ≡ delivered ns)
      ↔ (Good l t × (level_by l t ≤ 254) × (bits_by l t ≤ field_end l) × (ns ≡ level_by l t ∷ boundary_by l t ∷ pairs_by l t ∷ bits_by l t ∷ []))
  delivered_exactly ns = (
    (λ e. let k = passes l t (rw e (omega arith)) in let (h, g, q) = (delivers l t ns k).0 e in (passes_good l t k, h, g, q)),
    (λ x. let (k, h, g, q) = x in (delivers l t ns (good_passes l t k)).1 (h, g, q)),
  )
