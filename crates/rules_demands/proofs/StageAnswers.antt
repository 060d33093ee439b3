-- Demand 2 for the stage as it is called: refusals 5 and 7, and the delivery, come exactly as defined. Assumes nothing.
use mathlib.Core.Path.{◌≡◌, refl, sym, ◌∙◌, ap}
use mathlib.Core.List.{List, [], ◌∷◌}
use mathlib.Core.Option.{Option}
use mathlib.Core.Logic.{◌↔◌}
use mathlib.Core.Bool.{true, false, not}
use Prim.Native.Nat.{ℕ, ◌-◌, ◌/◌, ◌≤◌, ◌<◌}
use native.Mathlib.Omega.{arith}
use borrow.Author.Tests.{ltb-true, ltb-false, le-ltb, not-false, eqb-false}
use lib.Dec.{ltb, eqb}
use lib.ListN.{length, take}
use Rattle.buffers.specs.Walk.{first}
use Rattle.buffers.proofs.Tests.{cond_both}
use Rattle.rules.specs.Layout.{LegalLayout, legal_layout, start_band, spectrum_length, side_length}
use Rattle.rules.specs.Fields.{fields}
use Rattle.rules.specs.Frame.{field_end}
use Rattle.rules.specs.Refusals.{Outcome, delivered, refused}
use Rattle.rules.specs.Stage.{StageLent, StageLeft, cleared, stage_overwrite, behind_gate, stage_room, stage_has_room, bad_intensity, bad_spectrum, gate, Analysis}
use Rattle.rules.specs.Stage.{analysis, stage_record, delivery, after_packing, after_level, encode_frame}
use Rattle.rules.specs.declared.Layout.{Layout}
use Rattle.rules.proofs.Layouts.{legal_sizes}
use Rattle.rules.proofs.Cuts.{by_order}
use Rattle.rules.proofs.Answers.{Numbered, numbered, unnumbered, stage_numbers}
use Rattle.rules.proofs.Refused.{settled_none, settled_long}
use Rattle.rules_demands.proofs.MadeRecord.{made_level, made_none, made_pairs, made_boundary}
use Rattle.rules_demands.proofs.Lengths.{fields-short}

-- ---- what the statements name

-- the first bad intensity and the first bad spectrum; where there is none, how many there are
abbrev pub intensity_by : Layout → StageLent → ℕ
intensity_by l t = first (bad_intensity l t.intensities) (side_length l)

abbrev pub spectrum_by : Layout → StageLent → ℕ
spectrum_by l t = first (bad_spectrum t.spectra) (spectrum_length l)

-- a call that passes refusals 1 to 4: each search for a bad value comes to its end without one
pub record Passes (l : Layout) (t : StageLent) : Type 0 where
  pub layout : legal_layout l ≡ true
  pub room : stage_has_room l (stage_room t) ≡ true
  pub intensities : side_length l ≤ intensity_by l t
  pub spectra : spectrum_length l ≤ spectrum_by l t

-- what the rules make of a call
abbrev pub analysis_by : Layout → StageLent → Analysis
analysis_by l t = analysis l (take (spectrum_length l) t.spectra) (take (side_length l) t.intensities)

-- the level that is found (255: none), the pairs removed, the boundary, the sum of the field lengths
abbrev pub level_by : Layout → StageLent → ℕ
level_by l t = (analysis_by l t).found.level

abbrev pub pairs_by : Layout → StageLent → ℕ
pairs_by l t = (analysis_by l t).found.pairs

abbrev pub boundary_by : Layout → StageLent → ℕ
boundary_by l t = (analysis_by l t).boundary

abbrev pub bits_by : Layout → StageLent → ℕ
bits_by l t = length (fields l (stage_record l (analysis_by l t)))

-- ---- how a call ends

-- an answer's place in the order of the tests: a delivery comes after the refusals
abbrev place_of : Outcome → ℕ
place_of (refused k p) = k
place_of (delivered ns) = 8

clash : {A : Type 0} {o p q : Outcome} → o ≡ p → o ≡ q → eqb (place_of p) (place_of q) ≡ false → A
clash e f d = absurd (eqb-false _ _ d (ap place_of (sym e ∙ f)))

module _ (l : Layout) (t : StageLent) where
  -- what is answered behind a gate that is shut or open
  abbrev Later : Option Outcome → Type 0
  Later g = 5 ≤ place_of (behind_gate g t (after_level l (analysis_by l t))).outcome → Passes l t

  pub passes : 5 ≤ place_of (encode_frame l t).outcome → Passes l t
  unfolding encode_frame gate behind_gate
  passes =
      cond_both Later (not (legal_layout l)) (λ _ h. absurd (omega arith))
      (λ a. cond_both Later (not (stage_has_room l (stage_room t))) (λ _ h. absurd (omega arith))
      (λ b. cond_both Later (ltb (intensity_by l t) (side_length l)) (λ _ h. absurd (omega arith))
      (λ c. cond_both Later (ltb (spectrum_by l t) (spectrum_length l)) (λ _ h. absurd (omega arith))
      (λ d _. record { layout = not-false _ a; room = not-false _ b; intensities = ltb-false _ _ c; spectra = ltb-false _ _ d }))))

  pub boundary-small : boundary_by l t ≤ 127
  boundary-small = made_boundary l (take (spectrum_length l) t.spectra) (take (side_length l) t.intensities)

  module _ (k : Passes l t) where
    settles : encode_frame l t ≡ stage_overwrite t (after_level l (analysis_by l t))
    unfolding encode_frame gate behind_gate
    settles = rw (k.layout, k.room, le-ltb _ _ k.intensities, le-ltb _ _ k.spectra)

    ends-none : 254 < level_by l t → encode_frame l t ≡ stage_overwrite t (cleared l (refused 5 (pairs_by l t)))
    ends-none h = settles ∙ ap (stage_overwrite t) (settled_none l (analysis_by l t) h)

    ends-long : level_by l t ≤ 254 → field_end l < bits_by l t → encode_frame l t ≡ stage_overwrite t (cleared l (refused 7 (bits_by l t)))
    ends-long h g = settles ∙ ap (stage_overwrite t) (settled_long l (analysis_by l t) h g)

    pub ends-done : level_by l t ≤ 254 → bits_by l t ≤ field_end l → encode_frame l t ≡ stage_overwrite t (delivery l (analysis_by l t))
    unfolding after_level after_packing
    ends-done h g = settles ∙ rw (le-ltb _ _ h, le-ltb _ _ g)

    abbrev answers : List ℕ
    answers = level_by l t ∷ boundary_by l t ∷ pairs_by l t ∷ bits_by l t ∷ []

    -- the answers alone
    says_none : 254 < level_by l t → (encode_frame l t).outcome ≡ refused 5 (pairs_by l t)
    says_none h = ap (λ (x : StageLeft). x.outcome) (ends-none h)

    says_long : level_by l t ≤ 254 → field_end l < bits_by l t → (encode_frame l t).outcome ≡ refused 7 (bits_by l t)
    says_long h g = ap (λ (x : StageLeft). x.outcome) (ends-long h g)

    says_done : level_by l t ≤ 254 → bits_by l t ≤ field_end l → (encode_frame l t).outcome ≡ delivered answers
    unfolding delivery
    says_done h g = ap (λ (x : StageLeft). x.outcome) (ends-done h g)

    -- it is one of the three
    says : {P : Type 0} → (254 < level_by l t → (encode_frame l t).outcome ≡ refused 5 (pairs_by l t) → P)
        → (level_by l t ≤ 254 → field_end l < bits_by l t → (encode_frame l t).outcome ≡ refused 7 (bits_by l t) → P)
        → (level_by l t ≤ 254 → bits_by l t ≤ field_end l → (encode_frame l t).outcome ≡ delivered answers → P) → P
    says none long done =
        by_order 254 (level_by l t) (λ h. none h (says_none h))
        (λ h. by_order (field_end l) (bits_by l t) (λ g. long h g (says_long h g)) (λ g. done h g (says_done h g)))

  -- what each end has, every end has
  pub stage_case : (P : Outcome → Type 0) → P (refused 1 0) → P (refused 2 0)
      → (legal_layout l ≡ true → intensity_by l t < side_length l → P (refused 3 (intensity_by l t)))
      → (legal_layout l ≡ true → spectrum_by l t < spectrum_length l → P (refused 4 (spectrum_by l t)))
      → (Passes l t → 254 < level_by l t → P (refused 5 (pairs_by l t)))
      → (Passes l t → level_by l t ≤ 254 → field_end l < bits_by l t → P (refused 7 (bits_by l t)))
      → (Passes l t → level_by l t ≤ 254 → bits_by l t ≤ field_end l → P (delivered (level_by l t ∷ boundary_by l t ∷ pairs_by l t ∷ bits_by l t ∷ [])))
      → P (encode_frame l t).outcome
  unfolding encode_frame gate behind_gate after_level after_packing delivery
  stage_case P one two three four five seven done =
      let Q : Option Outcome → Type 0 = λ g. P (behind_gate g t (after_level l (analysis_by l t))).outcome in
      let R : StageLeft → Type 0 = λ x. P x.outcome in
      cond_both Q (not (legal_layout l)) (λ _. one)
      (λ a. cond_both Q (not (stage_has_room l (stage_room t))) (λ _. two)
      (λ b. cond_both Q (ltb (intensity_by l t) (side_length l)) (λ h. three (not-false _ a) (ltb-true _ _ h))
      (λ c. cond_both Q (ltb (spectrum_by l t) (spectrum_length l)) (λ h. four (not-false _ a) (ltb-true _ _ h))
      (λ d. let k : Passes l t = record { layout = not-false _ a; room = not-false _ b; intensities = ltb-false _ _ c; spectra = ltb-false _ _ d } in
      cond_both R (ltb 254 (level_by l t)) (λ h. five k (ltb-true _ _ h))
      (λ h. cond_both R (ltb (field_end l) (bits_by l t)) (λ g. seven k (ltb-false _ _ h) (ltb-true _ _ g))
      (λ g. done k (ltb-false _ _ h) (ltb-false _ _ g)))))))

-- ---- DEMAND 2

-- Refusal 5 comes just where no level is found, beside it the pairs removed.
pub no_level : (l : Layout) (t : StageLent) (p : ℕ) → Passes l t → ((encode_frame l t).outcome ≡ refused 5 p) ↔ ((level_by l t ≡ 255) × (p ≡ pairs_by l t))
no_level l t p k = (
  (λ e. says l t k (λ h q. (omega (arith, made_level l (take (spectrum_length l) t.spectra) (take (side_length l) t.intensities)), (cc)))
      (λ _ _ q. clash e q refl) (λ _ _ q. clash e q refl)),
  (λ x. let (h, q) = x in rw q (says_none l t k (omega arith))),
)

-- Those are all pairs that there are: (N - 1) / 2.
pub no_level_pairs : (l : Layout) (t : StageLent) (p : ℕ) → (encode_frame l t).outcome ≡ refused 5 p → p ≡ (start_band l - 1) / 2
no_level_pairs l t p e =
    let k = passes l t (rw e (omega arith)) in
    let (h, q) = (no_level l t p k).0 e in
    q ∙ made_none l (take (spectrum_length l) t.spectra) (take (side_length l) t.intensities) (legal_sizes l k.layout) h

-- Where the stage refuses, the number is one of six.
pub stage_numbers_lem : (l : Layout) (t : StageLent) → Numbered stage_numbers (encode_frame l t).outcome
stage_numbers_lem l t =
    stage_case l t (Numbered stage_numbers) (numbered stage_numbers 1 0 tt) (numbered stage_numbers 2 0 tt) (λ _ _. numbered stage_numbers 3 _ tt)
    (λ _ _. numbered stage_numbers 4 _ tt)
    (λ _ _. numbered stage_numbers 5 _ tt) (λ _ _ _. numbered stage_numbers 7 _ tt) (λ _ _ _. unnumbered stage_numbers _)

-- Refusal 7 comes just where a level is found and the fields do not fit, beside it the sum of their lengths.
pub too_long : (l : Layout) (t : StageLent) (n : ℕ) → Passes l t → ((encode_frame l t).outcome ≡ refused 7 n)
    ↔ ((level_by l t ≤ 254) × (field_end l < bits_by l t) × (n ≡ bits_by l t))
too_long l t n k = (
  (λ e. says l t k (λ _ q. clash e q refl) (λ h g q. (h, g, (cc))) (λ _ _ q. clash e q refl)),
  (λ x. let (h, g, q) = x in rw q (says_long l t k h g)),
)

-- A frame comes just where a level is found and the fields fit; the answer is level, boundary, pairs and the sum of the field lengths.
pub delivers : (l : Layout) (t : StageLent) (ns : List ℕ) → Passes l t
    → ((encode_frame l t).outcome ≡ delivered ns)
    ↔ ((level_by l t ≤ 254) × (bits_by l t ≤ field_end l) × (ns ≡ level_by l t ∷ boundary_by l t ∷ pairs_by l t ∷ bits_by l t ∷ []))
delivers l t ns k = (
  (λ e. says l t k (λ _ q. clash e q refl) (λ _ _ q. clash e q refl) (λ h g q. (h, g, (cc)))),
  (λ x. let (h, g, q) = x in rw q (says_done l t k h g)),
)

-- ---- HOW LARGE THE NUMBERS ARE, in every call

pub data StageBounded : Outcome → Type 0 where
  answers_bounded : (level boundary pairs bits : ℕ) → level ≤ 254 → boundary ≤ 127 → pairs ≤ 63 → bits ≤ 219984
      → StageBounded (delivered (level ∷ boundary ∷ pairs ∷ bits ∷ []))
  beside_bounded : (number beside : ℕ) → beside < 4294967296 → StageBounded (refused number beside)

pairs_small : (l : Layout) (t : StageLent) → LegalLayout l → pairs_by l t ≤ 63
pairs_small l t = made_pairs l (take (spectrum_length l) t.spectra) (take (side_length l) t.intensities)

bits-short : (l : Layout) (t : StageLent) → LegalLayout l → bits_by l t ≤ 219984
unfolding stage_record
bits-short l t z = fields-short l z _ _ _ _ _

pub stage_bounds : (l : Layout) (t : StageLent) → StageBounded (encode_frame l t).outcome
stage_bounds l t =
    stage_case l t StageBounded (beside_bounded 1 0 (omega arith)) (beside_bounded 2 0 (omega arith))
    (λ e h. beside_bounded 3 _ (omega (arith, h, (legal_sizes l e).few)))
    (λ e h. beside_bounded 4 _ (omega (arith, h, (legal_sizes l e).few)))
    (λ k _. beside_bounded 5 _ (omega (arith, pairs_small l t (legal_sizes l k.layout))))
    (λ k _ _. beside_bounded 7 _ (omega (arith, bits-short l t (legal_sizes l k.layout))))
    (λ k h _. let z = legal_sizes l k.layout in answers_bounded _ _ _ _ h (boundary-small l t) (pairs_small l t z) (bits-short l t z))
