-- How the stage is worked out on a named input: its refusals one by one, its values step by step, and its searches in a form that takes only
-- the branch that a probe decides (`cond` would take both). Assumes nothing.
use mathlib.Core.Path.{◌≡◌, refl, ap, ◌∙◌}
use mathlib.Core.List.{List, [], ◌∷◌}
use mathlib.Core.Bool.{Bool, true, false, cond, ◌&&◌}
use Prim.Native.Nat.{ℕ, zero, suc, ◌+◌, ◌-◌, ◌/◌, ◌≤◌, ◌<◌}
use native.Mathlib.Nat.{not-suc-le-zero, le_of_suc-le-suc}
use native.Mathlib.Omega.{arith}
use borrow.Author.Tests.{le-ltb}
use lib.Dec.{ltb, eqb}
use lib.IntN.{ℤ}
use lib.Ieee.{Float, nan}
use lib.Ieee.Scale.{finite}
use lib.ListN.{length, get_or, take, length-replicate}
use lib.Seq.{take_all}
use Rattle.buffers.specs.Walk.{first_from}
use Rattle.buffers.proofs.Tests.{and_fst, and_snd}
use Rattle.rules.specs.Layout.{legal_layout, start_band, spectrum_length, side_length}
use Rattle.rules.specs.Factor.{all_factors}
use Rattle.rules.specs.Scaling.{all_scaled}
use Rattle.rules.specs.Hfr.{all_side}
use Rattle.rules.specs.Estimate.{exceeds}
use Rattle.rules.specs.Level.{halve, level_of, clear_pair, LevelFound, remove, noise_level}
use Rattle.rules.specs.Boundary.{last_of, narrow, search_boundary, boundary_of}
use Rattle.rules.specs.Resolution.{all_resolutions}
use Rattle.rules.specs.Code.{all_codes}
use Rattle.rules.specs.Fields.{fields}
use Rattle.rules.specs.Frame.{field_end, frame_of}
use Rattle.rules.specs.Refusals.{delivered, refused}
use Rattle.rules.specs.Lent.{no_floats, no_codes, no_factors, no_side, no_frame, overwrite}
use Rattle.rules.specs.Stage.{StageLent, StageLeft, Analysis, cleared, stage_overwrite, behind_gate, stage_room, stage_has_room, bad_intensity, bad_spectrum, gate}
use Rattle.rules.specs.Stage.{level_found, boundary_for, analysis_from, analysis, stage_record, delivery, after_packing, after_level, encode_frame}
use Rattle.rules.specs.declared.Layout.{Layout}
use Rattle.rules.proofs.Cuts.{get_or_copies}
use Rattle.rules_demands.proofs.MadeRecord.{finished_outcome}
use Rattle.rules.proofs.Refused.{settled_none}

-- ---- the searches, branch by branch

abbrev pub lazily : {A : Type 0} → Bool → (Unit {0} → A) → (Unit {0} → A) → A
lazily true f g = f tt
lazily false f g = g tt

lazily-is : {A : Type 0} {a b a' b' : A} (t : Bool) → a ≡ a' → b ≡ b' → cond t a b ≡ lazily t (λ _. a') (λ _. b')
lazily-is true p q = p
lazily-is false p q = q

unfoldable pub halving : (ℕ → Bool) → ℕ → ℕ → ℕ → ℕ
halving over zero low high = low
halving over (suc n) low high =
    let mid = (low + high) / 2 in
    lazily (ltb low high) (λ _. lazily (over mid) (λ _. halving over n (mid + 1) high) (λ _. halving over n low mid)) (λ _. low)

unfoldable pub narrowing : (ℕ → Bool) → ℕ → ℕ → ℕ → ℕ
narrowing over zero low high = last_of over low high
narrowing over (suc n) low high =
    let mid = (low + high) / 2 in
    lazily (ltb (low + 1) high) (λ _. lazily (over mid) (λ _. narrowing over n low (mid - 1)) (λ _. narrowing over n mid high)) (λ _. last_of over low high)

halve-is : (over : ℕ → Bool) (n low high : ℕ) → halve over n low high ≡ halving over n low high
unfolding halve halving
halve-is over zero low high = refl
halve-is over (suc n) low high =
    lazily-is (ltb low high) (lazily-is (over ((low + high) / 2)) (halve-is over n ((low + high) / 2 + 1) high) (halve-is over n low ((low + high) / 2))) refl

narrow-is : (over : ℕ → Bool) (n low high : ℕ) → narrow over n low high ≡ narrowing over n low high
unfolding narrow narrowing
narrow-is over zero low high = refl
narrow-is over (suc n) low high =
    lazily-is (ltb (low + 1) high) (lazily-is (over ((low + high) / 2)) (narrow-is over n low ((low + high) / 2 - 1))
    (narrow-is over n ((low + high) / 2) high)) refl

-- the removal, given the level that was found
unfoldable pub removal_step : ℕ → ℕ → ℕ → List ℕ → (Unit {0} → LevelFound) → LevelFound
removal_step level top pairs factors f =
    let found : LevelFound = record { level = level; pairs = pairs; factors = factors } in
    lazily (ltb 254 level) (λ _. lazily (ltb top 3) (λ _. found) f) (λ _. found)

unfoldable pub removing : Layout → (List ℕ → ℕ → Bool) → ℕ → ℕ → ℕ → List ℕ → LevelFound
removing l over zero top pairs factors = record { level = halving (over factors) 255 0 255; pairs = pairs; factors = factors }
removing l over (suc n) top pairs factors =
    removal_step (halving (over factors) 255 0 255) top pairs factors (λ _. removing l over n (top - 2) (pairs + 1) (clear_pair l factors (top - 2)))

level-is : (over : ℕ → Bool) → level_of over ≡ halving over 255 0 255
unfolding level_of
level-is over = halve-is over 255 0 255

pub remove-is : (l : Layout) (over : List ℕ → ℕ → Bool) (n top pairs : ℕ) (factors : List ℕ) → remove l over n top pairs factors
    ≡ removing l over n top pairs factors
unfolding remove removing removal_step
remove-is l over zero top pairs factors = rw (level-is (over factors))
remove-is l over (suc n) top pairs factors =
    rw (level-is (over factors))
    (lazily-is (ltb 254 (halving (over factors) 255 0 255))
    (lazily-is (ltb top 3) refl (remove-is l over n (top - 2) (pairs + 1) (clear_pair l factors (top - 2)))) refl)

pub boundary-is : (level : ℕ) (over : ℕ → Bool) → boundary_of level over ≡ lazily (eqb level 0) (λ _. 0) (λ _. narrowing over 127 0 127)
unfolding boundary_of search_boundary
boundary-is level over = lazily-is (eqb level 0) refl (narrow-is over 127 0 127)

-- ---- the values, step by step

pub made_is : (l : Layout) (xs : List Float) (is fs : List ℕ) (sc : List Float) (side : List ℕ) (f : LevelFound) (b : ℕ) (codes : List ℤ) →
    all_factors l xs ≡ fs → all_scaled l xs fs ≡ sc → all_side l xs sc is ≡ side → level_found l sc fs ≡ f → boundary_for l sc f ≡ b →
    all_codes l (all_resolutions l f.level b f.factors) sc ≡ codes →
    analysis l xs is ≡ record { scaled = sc; side = side; found = f; boundary = b; codes = codes }
unfolding analysis analysis_from
made_is l xs is fs sc side f b codes e₁ e₂ e₃ e₄ e₅ e₆ = rw (e₁, e₂, e₃, e₄, e₅, e₆)

-- ---- the refusals, one by one

-- no index has p
first-none : (p : ℕ → Bool) (i k n : ℕ) → i + k ≡ n → ((j : ℕ) → j < n → p j ≡ false) → first_from p i k ≡ n
unfolding first_from
first-none p i zero n e h = omega arith
first-none p i (suc k) n e h = rw (h i (omega arith)) (first-none p (suc i) k n (omega arith) h)

-- whether every value is finite
unfoldable pub all_finite : List Float → Bool
all_finite [] = true
all_finite (x ∷ xs) = finite x && all_finite xs

finite-at : (xs : List Float) → all_finite xs ≡ true → (i : ℕ) → i < length xs → finite (get_or xs i nan) ≡ true
unfolding all_finite
finite-at [] e i h = absurd (not-suc-le-zero h)
finite-at (x ∷ xs) e zero h = and_fst (finite x) (all_finite xs) e
finite-at (x ∷ xs) e (suc i) h = finite-at xs (and_snd (finite x) (all_finite xs) e) i (le_of_suc-le-suc h)

module _ (l : Layout) (t : StageLent) where
  -- none of refusals 1 to 4, where no intensity is above 15
  pub stage_made : legal_layout l ≡ true → stage_has_room l (stage_room t) ≡ true → length t.spectra ≡ spectrum_length l → all_finite t.spectra ≡ true →
      ((i : ℕ) → get_or t.intensities i 0 ≤ 15) →
      encode_frame l t ≡ stage_overwrite t (after_level l (analysis l (take (spectrum_length l) t.spectra) (take (side_length l) t.intensities)))
  unfolding encode_frame gate behind_gate bad_spectrum bad_intensity
  stage_made legal room exact whole small =
      rw (
        legal,
        room,
        first-none (bad_intensity l t.intensities) 0 (side_length l) (side_length l) (omega arith)
            (λ j h. rw (le-ltb 15 (get_or t.intensities j 0) (small j))),
        first-none (bad_spectrum t.spectra) 0 (spectrum_length l) (spectrum_length l) (omega arith) (λ j h. rw (finite-at t.spectra whole j (rw exact h))),
        le-ltb (side_length l) (side_length l) (omega arith),
        le-ltb (spectrum_length l) (spectrum_length l) (omega arith),
      )

-- success
pub settled_finished : (l : Layout) (m : Analysis) → m.found.level ≤ 254 → length (fields l (stage_record l m)) ≤ field_end l → after_level l m ≡ delivery l m
unfolding after_level after_packing
settled_finished l m h n = rw (le-ltb 254 m.found.level h, le-ltb (field_end l) (length (fields l (stage_record l m))) n)

-- by its bits and bytes
abbrev pub done : (m : Analysis) (bits : ℕ) (bytes : List ℕ) → StageLeft
done m bits bytes = record {
  outcome = delivered (m.found.level ∷ m.boundary ∷ m.found.pairs ∷ bits ∷ []);
  scaled = m.scaled;
  codes = m.codes;
  factors = m.found.factors;
  side = m.side;
  frame = bytes;
}

pub settled_done : (l : Layout) (m : Analysis) (bits : ℕ) (bytes : List ℕ) → m.found.level ≤ 254 → length (fields l (stage_record l m)) ≡ bits
    → bits ≤ field_end l
    → frame_of l (stage_record l m) ≡ bytes → after_level l m ≡ done m bits bytes
unfolding delivery
settled_done l m bits bytes h p n q = settled_finished l m h (omega (arith, p)) ∙ rw (p, q)

-- ---- on an input

-- buffers of exactly the stated lengths, zeros in each that is written
abbrev pub lent : Layout → List Float → StageLent
lent l spectra = record {
  spectra = spectra;
  intensities = no_side l;
  scaled = no_floats l;
  codes = no_codes l;
  factors = no_factors l;
  side = no_side l;
  frame =
      no_frame l;
}

-- AN INPUT with what each rule makes of it, as it is stated
pub record Example : Type 0 where
  pub layout : Layout
  pub spectra : List Float
  pub factors : List ℕ
  pub analysis : Analysis
  pub bits : ℕ

-- and as it is worked out, each step from what is stated of the steps before it
pub record Sheet : Type 0 where
  pub legal : Bool
  pub room : Bool
  pub size : ℕ
  pub whole : Bool
  pub factors : List ℕ
  pub analysis : Analysis
  pub bits : ℕ

abbrev pub stated : Example → Sheet
stated e = record { legal = true; room = true; size = spectrum_length e.layout; whole = true; factors = e.factors; analysis = e.analysis; bits = e.bits }

abbrev pub worked_out : Example → Sheet
worked_out e =
    let l : Layout = e.layout in
    let m : Analysis = e.analysis in
    record {
      legal = legal_layout l;
      room = stage_has_room l (stage_room (lent l e.spectra));
      size = length e.spectra;
      whole = all_finite e.spectra;
      factors = all_factors l e.spectra;
      analysis = record {
        scaled = all_scaled l e.spectra e.factors;
        side = all_side l e.spectra m.scaled (no_side l);
        found = removing l (λ fs level. exceeds l m.scaled fs level 0) 64 (start_band l) 0 e.factors;
        boundary = lazily (eqb m.found.level 0) (λ _. 0) (λ _. narrowing (exceeds l m.scaled m.found.factors m.found.level) 127 0 127);
        codes = all_codes l (all_resolutions l m.found.level m.boundary m.found.factors) m.scaled;
      };
      bits = length (fields l (stage_record l m));
    }

abbrev pub Right : Example → Type 0
Right e = worked_out e ≡ stated e

-- what the stage leaves, from what the rules make
module _ (e : Example) (r : Right e) where
  pub run_made : analysis e.layout e.spectra (no_side e.layout) ≡ e.analysis
  unfolding noise_level
  run_made =
      made_is e.layout e.spectra (no_side e.layout) e.factors e.analysis.scaled e.analysis.side e.analysis.found e.analysis.boundary
      e.analysis.codes
      (ap (λ w. w.factors) r) (ap (λ w. w.analysis.scaled) r) (ap (λ w. w.analysis.side) r) (remove-is _ _ _ _ _ _ ∙ ap (λ w. w.analysis.found) r)
      (boundary-is _ _ ∙ ap (λ w. w.analysis.boundary) r) (ap (λ w. w.analysis.codes) r)

  pub run : encode_frame e.layout (lent e.layout e.spectra) ≡ stage_overwrite (lent e.layout e.spectra) (after_level e.layout e.analysis)
  run =
      let exact : length e.spectra ≡ spectrum_length e.layout = ap (λ w. w.size) r in
      stage_made e.layout (lent e.layout e.spectra) (ap (λ w. w.legal) r) (ap (λ w. w.room) r) exact (ap (λ w. w.whole) r)
      (λ i. omega (arith, get_or_copies {A = ℕ} 0 (side_length e.layout) i))
      ∙ ap (λ m. stage_overwrite (lent e.layout e.spectra) (after_level e.layout m))
      (rw (
        take_all (spectrum_length e.layout) e.spectra (omega arith),
        take_all (side_length e.layout) (no_side e.layout) (omega (arith, length-replicate {A = ℕ} (side_length e.layout) 0)),
      ) run_made)

  counted : length (fields e.layout (stage_record e.layout e.analysis)) ≡ e.bits
  counted = ap (λ w. w.bits) r

  pub run_delivered : e.analysis.found.level ≤ 254 → e.bits ≤ field_end e.layout →
      encode_frame e.layout (lent e.layout e.spectra) ≡ stage_overwrite (lent e.layout e.spectra) (delivery e.layout e.analysis)
  run_delivered h n = run ∙ ap (stage_overwrite (lent e.layout e.spectra)) (settled_finished e.layout e.analysis h (omega (arith, counted)))

  pub run_none : 254 < e.analysis.found.level →
      encode_frame e.layout (lent e.layout e.spectra)
      ≡ stage_overwrite (lent e.layout e.spectra) (cleared e.layout (refused 5 e.analysis.found.pairs))
  run_none h = run ∙ ap (stage_overwrite (lent e.layout e.spectra)) (settled_none e.layout e.analysis h)

  pub run_outcome : e.analysis.found.level ≤ 254 → e.bits ≤ field_end e.layout →
      (encode_frame e.layout (lent e.layout e.spectra)).outcome
      ≡ delivered (e.analysis.found.level ∷ e.analysis.boundary ∷ e.analysis.found.pairs ∷ e.bits ∷ [])
  run_outcome h n = ap (λ x. x.outcome) (run_delivered h n) ∙ finished_outcome e.layout e.analysis ∙ rw counted

  pub run_frame : (bytes : List ℕ) → frame_of e.layout (stage_record e.layout e.analysis) ≡ bytes → e.analysis.found.level ≤ 254 →
      e.bits ≤ field_end e.layout → (encode_frame e.layout (lent e.layout e.spectra)).frame ≡ overwrite bytes (no_frame e.layout)
  unfolding delivery
  run_frame bytes f h n = ap (λ x. x.frame) (run_delivered h n) ∙ rw f
