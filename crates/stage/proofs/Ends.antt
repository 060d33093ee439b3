-- How the stage ends, on buffers of the stated lengths. Assumes nothing.
use Rattle.std.specs.Prelude.{Err}
use mathlib.Core.Path.{◌≡◌, refl, sym, ap, ◌∙◌}
use mathlib.Core.List.{List, [], ◌∷◌}
use mathlib.Core.Bool.{Bool, true, false, cond}
use Prim.Native.Nat.{ℕ}
use lib.Dec.{ltb}
use lib.IntN.{ℤ}
use lib.Ieee.{Float}
use lib.ListN.{length}
use Rattle.rules.specs.Level.{LevelFound}
use Rattle.rules.specs.Record.{rec_of}
use Rattle.rules.specs.Fields.{fields}
use Rattle.rules.specs.Frame.{field_end, frame_of}
use Rattle.rules.specs.Refusals.{Outcome, delivered, refused, stage_outcome}
use Rattle.rules.specs.Stage.{StageLeft, stage_left, Analysis, boundary_for, analysis_from, stage_record, delivery, after_packing, after_level}
use Rattle.rules.specs.declared.Layout.{Layout}
use Rattle.rules.specs.declared.StageRefusal.TheVariants.{NoLevel}
use Rattle.stage.specs.Delivery.{Delivers, found_as, wiped_by, wiped}

-- ---- from the level on

module _ (l : Layout) (level b pairs n : ℕ) (sc : List Float) (fa si : List ℕ) (co : List ℤ) (fr : List ℕ)
    (d : Delivers l level b sc fa si n co fr) (q : b ≡ boundary_for l sc (found_as level pairs fa)) where
  abbrev m : Analysis
  m = analysis_from l sc si (found_as level pairs fa)

  abbrev left : Outcome → StageLeft
  left o = record { outcome = o; scaled = sc; codes = co; factors = fa; side = si; frame = fr }

  is_record : rec_of l level b fa si co ≡ stage_record l m
  unfolding stage_record analysis_from
  is_record = rw (d.coded, q)

  is-bits : n ≡ length (fields l (stage_record l m))
  is-bits = d.bits ∙ ap (λ r. length (fields l r)) is_record

  -- refusal 7 or a success, by the test that was made
  ends_by : (t : Bool) → ltb (field_end l) n ≡ t → (o : Outcome) → o ≡ cond t (refused 7 n) (delivered (level ∷ b ∷ pairs ∷ n ∷ [])) → wiped l (left o)
      ≡ after_packing l m
  unfolding wiped wiped_by after_packing delivery analysis_from
  ends_by true e o f = rw (f, ap (ltb (field_end l)) (sym is-bits) ∙ e, is-bits)
  ends_by false e o f =
      let k : fr ≡ frame_of l (stage_record l m) = d.stored ∙ rw e (ap (frame_of l) is_record) in
      rw (f, ap (ltb (field_end l)) (sym is-bits) ∙ e, is-bits, k, d.coded, q)

  pub packed_ends : (o : Outcome) → o ≡ cond (ltb (field_end l) n) (refused 7 n) (delivered (level ∷ b ∷ pairs ∷ n ∷ [])) → wiped l (left o) ≡ after_packing l m
  packed_ends o f = ends_by (ltb (field_end l) n) refl o f

-- ---- from what the search of the level leaves

module _ (l : Layout) (sc : List Float) (si : List ℕ) (f : LevelFound) (level pairs : ℕ) (fa : List ℕ)
    (p : level ≡ f.level) (q : pairs ≡ f.pairs) (r : fa ≡ f.factors) where
  is_found : found_as level pairs fa ≡ f
  is_found = rw (p, q, r)

  -- refusal 5
  pub level-none : (co : List ℤ) (fr : List ℕ) → ltb 254 level ≡ true
      → wiped l (stage_left (Err (NoLevel pairs)) sc co fa si fr) ≡ after_level l (analysis_from l sc si f)
  unfolding wiped wiped_by after_level analysis_from stage_outcome
  level-none co fr h = rw (← is_found, h)

  pub settled_packed : (x : StageLeft) → ltb 254 level ≡ false → x ≡ after_packing l (analysis_from l sc si (found_as level pairs fa)) → x
      ≡ after_level l (analysis_from l sc si f)
  unfolding after_level analysis_from
  settled_packed x h e = e ∙ rw (← is_found, h)
