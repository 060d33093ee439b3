-- Document 01, **Level** and **Boundary**, for a call of the stage that delivered: both fit the estimate, the level before and the boundary after do
-- not, and 127 is the boundary where all fit. Assumes nothing.
use mathlib.Core.Path.{◌≡◌, ◌∙◌, ap}
use mathlib.Core.List.{[], ◌∷◌}
use mathlib.Core.Bool.{Bool, true, false}
use Prim.Native.Nat.{ℕ, suc, ◌-◌, ◌≤◌, ◌<◌}
use native.Mathlib.Omega.{arith}
use Rattle.rules.specs.Estimate.{exceeds}
use Rattle.rules.specs.Level.{level_of}
use Rattle.rules.specs.Boundary.{search_boundary, boundary_of}
use Rattle.rules.specs.Refusals.{delivered}
use Rattle.rules.specs.Stage.{StageLent, analysis, analysis_from, encode_frame}
use Rattle.rules.specs.declared.Layout.{Layout}
use Rattle.rules_demands.specs.Pairs.{after_pairs}
use Rattle.rules_demands.proofs.FoundLevel.{level-fits, level-before-exceeds}
use Rattle.rules_demands.proofs.FoundBoundary.{boundary-fits, boundary_next-exceeds, all_fit_last, boundary_searched}
use Rattle.rules_demands.proofs.FoundPairs.{factors-after_pairs}
use Rattle.rules_demands.proofs.StageAnswers.{level_by, boundary_by, pairs_by, passes, delivers}
use Rattle.rules_demands.proofs.Pairs.{factors_of, scaled_of, pairs-least}

-- the estimate of a call after so many removals, at a level and a boundary, against 8F bits
abbrev pub exceeds_after : Layout → StageLent → ℕ → ℕ → ℕ → Bool
exceeds_after l t pairs = exceeds l (scaled_of l t) (after_pairs l (factors_of l t) pairs)

pub made_boundary : (l : Layout) (t : StageLent) → boundary_by l t ≡ boundary_of (level_by l t) (exceeds_after l t (pairs_by l t) (level_by l t))
unfolding analysis analysis_from
made_boundary l t =
    ap (λ fs. boundary_of (level_by l t) (exceeds l (scaled_of l t) fs (level_by l t)))
    (factors-after_pairs l (λ fs v. exceeds l (scaled_of l t) fs v 0) (factors_of l t))

module _ (l : Layout) (t : StageLent) (level boundary pairs n : ℕ) (e : (encode_frame l t).outcome ≡ delivered (level ∷ boundary ∷ pairs ∷ n ∷ [])) where
  -- LEVEL: it fits at boundary 0, and the level before it exceeds.
  pub level-answered : (exceeds_after l t pairs level 0 ≡ false) × (0 < level → exceeds_after l t pairs (level - 1) 0 ≡ true)
  level-answered =
      let over : ℕ → Bool = λ v. exceeds_after l t pairs v 0 in
      let (is, small, few, earlier) = pairs-least l t level boundary pairs n e in
      let found : level_of over ≤ 254 = rw is small in
      (rw is at (level-fits over found), rw is at (level-before-exceeds over))

  -- BOUNDARY: above level 0 it is the search's,
  pub boundary-answered : 0 < level → boundary ≡ search_boundary (exceeds_after l t pairs level)
  boundary-answered h =
      let k = passes l t (rw e (omega arith)) in
      let (s, g, q) = (delivers l t (level ∷ boundary ∷ pairs ∷ n ∷ []) k).0 e in
      let v : level ≡ level_by l t = cc in
      let b : boundary ≡ boundary_by l t = cc in
      let p : pairs ≡ pairs_by l t = cc in
      b ∙ made_boundary l t ∙ rw (← v, ← p) (boundary_searched (exceeds_after l t pairs level) level h)

  -- it fits, and the one after it exceeds, unless it is 127;
  pub boundary-held : 0 < level → (exceeds_after l t pairs level boundary ≡ false) × (boundary < 127 → exceeds_after l t pairs level (suc boundary) ≡ true)
  boundary-held h =
      rw (boundary-answered h)
      (boundary-fits (exceeds_after l t pairs level) level-answered.0, boundary_next-exceeds (exceeds_after l t pairs level))

  -- and 127 is the answer where all of 1 to 127 fit.
  pub boundary-last : 0 < level → ((b : ℕ) → 0 < b → b ≤ 127 → exceeds_after l t pairs level b ≡ false) → boundary ≡ 127
  boundary-last h all = boundary-answered h ∙ all_fit_last (exceeds_after l t pairs level) all
