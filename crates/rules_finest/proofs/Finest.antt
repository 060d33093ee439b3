-- Request A10, **the finest level, shown**: no smaller level and no larger boundary was left unused, and refusal 5 comes exactly when no level fits at any
-- stage of the removal; where the premise fails, what still holds. Assumes nothing.
use mathlib.Core.Path.{◌≡◌, sym, ◌∙◌, ap, subst}
use mathlib.Core.List.{List, [], ◌∷◌}
use mathlib.Core.Logic.{◌↔◌}
use mathlib.Core.Bool.{Bool, true, false}
use Prim.Native.Nat.{ℕ, suc, ◌-◌, ◌≤◌, ◌<◌}
use native.Mathlib.Omega.{arith}
use lib.Dec.{eqb}
use lib.Ieee.{Float}
use lib.ListN.{take}
use Rattle.buffers.proofs.Tests.{cond_both}
use Rattle.rules.specs.Layout.{spectrum_length, factor_length}
use Rattle.rules.specs.Estimate.{exceeds}
use Rattle.rules.specs.Level.{level_of}
use Rattle.rules.specs.Boundary.{search_boundary, boundary_of}
use Rattle.rules.specs.Refusals.{delivered, refused}
use Rattle.rules.specs.Stage.{StageLent, analysis, analysis_from, encode_frame}
use Rattle.rules.specs.declared.Layout.{Layout}
use Rattle.rules.proofs.Layouts.{legal_sizes}
use Rattle.rules_demands.specs.Pairs.{after_pairs}
use Rattle.rules_demands.proofs.FoundLevel.{level-fits, level-before-exceeds, below-level-exceeds, none_all_exceed, all_exceed_none}
use Rattle.rules_demands.proofs.FoundBoundary.{boundary-fits, boundary_next-exceeds, boundary_searched, above-boundary-exceeds}
use Rattle.rules_demands.proofs.FoundPairs.{factors-after_pairs, level_of-factors, earlier_none}
use Rattle.rules_demands.proofs.StageAnswers.{level_by, boundary_by, pairs_by}
use Rattle.rules_demands.proofs.Exactly.{Good, delivered_exactly}
use Rattle.rules_demands.proofs.Pairs.{factors_of, scaled_of, level_after, most_pairs, five_exactly, factors_left_lem}
use Rattle.rules_demands.proofs.Searched.{exceeds_after, made_boundary}
use Rattle.rules_demands.proofs.Buffers.{scaled_left_lem}
use Rattle.rules_finest.specs.Finest.{Fits, Ordered}
use Rattle.rules_finest.proofs.Falls.{fits-within, over_unfit, unfit_over, levels_fall, boundaries_rise}
use Rattle.rules_finest.proofs.StageGrows.{stage_grows}

-- ---- what the statements name

-- no level from 0 to 254 fits at boundary 0
abbrev pub NoLevelFits : (l : Layout) (scaled : List Float) (factors : List ℕ) → Type 0
NoLevelFits l scaled factors = (level : ℕ) → level ≤ 254 → Fits l scaled factors level 0 → ⊥

-- of the factors that remain after so many removals: the level is the least that fits at boundary 0, the boundary fits, and above level 0 it is the largest
-- that does; of those before, at no earlier stage any level fits
pub record Finest (l : Layout) (scaled : List Float) (before remaining : List ℕ) (level boundary pairs : ℕ) : Type 0 where
  pub fits : Fits l scaled remaining level 0
  pub least : (j : ℕ) → j < level → Fits l scaled remaining j 0 → ⊥
  pub held : Fits l scaled remaining level boundary
  pub largest : 0 < level → (b : ℕ) → boundary < b → b ≤ 127 → Fits l scaled remaining level b → ⊥
  pub earlier : (k : ℕ) → k < pairs → NoLevelFits l scaled (after_pairs l before k)

-- the level below exceeds at boundary 0, and the next boundary exceeds unless the boundary is 127
pub record NextExceeds (l : Layout) (scaled : List Float) (remaining : List ℕ) (level boundary : ℕ) : Type 0 where
  pub below : Fits l scaled remaining (level - 1) 0 → ⊥
  pub next : boundary < 127 → Fits l scaled remaining level (suc boundary) → ⊥

-- ---- what the rules make of a call, so that it holds where refusal 7 follows
module _ (l : Layout) (t : StageLent) where
  abbrev remaining : List ℕ
  remaining = after_pairs l (factors_of l t) (pairs_by l t)

  level_found_lem : level_by l t ≡ level_after l t (pairs_by l t)
  unfolding analysis analysis_from
  level_found_lem =
      let over : List ℕ → ℕ → Bool = λ fs level. exceeds l (scaled_of l t) fs level 0 in
      level_of-factors l over (factors_of l t) ∙ ap (λ fs. level_of (over fs)) (factors-after_pairs l over (factors_of l t))

  earlier_found : (k : ℕ) → k < pairs_by l t → level_after l t k ≡ 255
  unfolding analysis analysis_from
  earlier_found = earlier_none l (λ fs level. exceeds l (scaled_of l t) fs level 0) (factors_of l t)

  boundary-found : 0 < level_by l t → boundary_by l t ≡ search_boundary (exceeds_after l t (pairs_by l t) (level_by l t))
  boundary-found h = made_boundary l t ∙ boundary_searched (exceeds_after l t (pairs_by l t) (level_by l t)) (level_by l t) h

  level-within : level_by l t ≤ 254 → exceeds_after l t (pairs_by l t) (level_by l t) 0 ≡ false
  level-within h =
      subst (λ v. v ≤ 254 → exceeds_after l t (pairs_by l t) v 0 ≡ false) (sym level_found_lem) (level-fits (λ v. exceeds_after l t (pairs_by l t) v 0)) h

  boundary-within : level_by l t ≤ 254 → exceeds_after l t (pairs_by l t) (level_by l t) (boundary_by l t) ≡ false
  unfolding boundary_of
  boundary-within h =
      let over : ℕ → Bool = exceeds_after l t (pairs_by l t) (level_by l t) in
      subst (λ b. over b ≡ false) (sym (made_boundary l t))
      (cond_both (λ b. over b ≡ false) (eqb (level_by l t) 0) (λ _. level-within h) (λ _. boundary-fits over (level-within h)))

  -- BOTH MODES, no premise: of every level above 0.
  pub next-exceeds : 0 < level_by l t → NextExceeds l (scaled_of l t) remaining (level_by l t) (boundary_by l t)
  next-exceeds g = record {
    below = over_unfit l (scaled_of l t) remaining (level_by l t - 1) 0
        (subst (λ v. 0 < v → exceeds_after l t (pairs_by l t) (v - 1) 0 ≡ true) (sym level_found_lem)
        (level-before-exceeds (λ v. exceeds_after l t (pairs_by l t) v 0)) g);
    next = λ q. over_unfit l (scaled_of l t) remaining (level_by l t) (suc (boundary_by l t))
        (subst (λ b. b < 127 → exceeds_after l t (pairs_by l t) (level_by l t) (suc b) ≡ true) (sym (boundary-found g))
        (boundary_next-exceeds (exceeds_after l t (pairs_by l t) (level_by l t))) q);
  }

  module _ (good : Good l t) (ordered : Ordered l (scaled_of l t)) where
    falls : (k : ℕ) → (j : ℕ) → j < 254 → exceeds_after l t k j 0 ≡ false → exceeds_after l t k (suc j) 0 ≡ false
    falls k = levels_fall l (scaled_of l t) (legal_sizes l good.layout) (stage_grows l t good ordered) (after_pairs l (factors_of l t) k)

    none-fits : (k : ℕ) → level_after l t k ≡ 255 → NoLevelFits l (scaled_of l t) (after_pairs l (factors_of l t) k)
    none-fits k e j h =
        over_unfit l (scaled_of l t) (after_pairs l (factors_of l t) k) j 0 ((none_all_exceed (λ v. exceeds_after l t k v 0) (falls k)).0 e j h)

    -- HELD MODE, and the Rust's where no scaled value of a coded band equals the upper clip.
    pub finest : level_by l t ≤ 254 → Finest l (scaled_of l t) (factors_of l t) remaining (level_by l t) (boundary_by l t) (pairs_by l t)
    finest h = record {
      fits = fits-within l (scaled_of l t) remaining (level_by l t) 0 (level-within h);
      least = λ j g. over_unfit l (scaled_of l t) remaining j 0
          (below-level-exceeds (λ v. exceeds_after l t (pairs_by l t) v 0) (falls (pairs_by l t)) j (subst (λ v. j < v) level_found_lem g));
      held = fits-within l (scaled_of l t) remaining (level_by l t) (boundary_by l t) (boundary-within h);
      largest = λ g b q s. over_unfit l (scaled_of l t) remaining (level_by l t) b
          (above-boundary-exceeds (exceeds_after l t (pairs_by l t) (level_by l t))
          (boundaries_rise l (scaled_of l t) (legal_sizes l good.layout) (stage_grows l t good ordered) remaining (level_by l t)) b
          (subst (λ n. n < b) (boundary-found g) q) s);
      earlier = λ k g. none-fits k (earlier_found k g);
    }

  -- at every stage of the removal no level fits
  abbrev pub NowhereFits : Type 0
  NowhereFits = (k : ℕ) → k ≤ most_pairs l → NoLevelFits l (scaled_of l t) (after_pairs l (factors_of l t) k)

  -- REFUSAL 5: where no level fits at any stage, it comes, in both modes;
  pub no_level_fits_five : (p : ℕ) → Good l t × NowhereFits × (p ≡ most_pairs l) → (encode_frame l t).outcome ≡ refused 5 p
  no_level_fits_five p x =
      let (good, none, q) = x in
      (five_exactly l t p).1 (
        good,
        (λ k h. all_exceed_none (λ v. exceeds_after l t k v 0)
            (λ j g. unfit_over l (scaled_of l t) (after_pairs l (factors_of l t) k) j 0 (none k h j g))),
        q,
      )

  -- and under the premise it comes nowhere else.
  pub five_no_level_fits : Ordered l (scaled_of l t) → (p : ℕ) → ((encode_frame l t).outcome ≡ refused 5 p) ↔ (Good l t × NowhereFits × (p ≡ most_pairs l))
  five_no_level_fits ordered p = (
    (λ e. let (good, none, q) = (five_exactly l t p).0 e in (good, (λ k h. none-fits good ordered k (none k h)), q)),
    no_level_fits_five p,
  )

-- ---- what a call that delivered level, boundary, pairs and n bits left
module _ (l : Layout) (t : StageLent) (level boundary pairs n : ℕ) (e : (encode_frame l t).outcome ≡ delivered (level ∷ boundary ∷ pairs ∷ n ∷ [])) where
  abbrev scaled : List Float
  scaled = take (spectrum_length l) (encode_frame l t).scaled

  abbrev factors : List ℕ
  factors = take (factor_length l) (encode_frame l t).factors

  record Made : Type 0 where
    good : Good l t
    small : level_by l t ≤ 254
    level-is : level_by l t ≡ level
    boundary-is : boundary_by l t ≡ boundary
    pairs_are : pairs_by l t ≡ pairs

  made : Made
  made =
      let (good, small, _, q) = (delivered_exactly l t (level ∷ boundary ∷ pairs ∷ n ∷ [])).0 e in
      record { good = good; small = small; level-is = cc; boundary-is = cc; pairs_are = cc }

  scaled-is : scaled ≡ scaled_of l t
  scaled-is = scaled_left_lem l t (level ∷ boundary ∷ pairs ∷ n ∷ []) e

  factors_are : factors ≡ after_pairs l (factors_of l t) (pairs_by l t)
  factors_are = factors_left_lem l t level boundary pairs n e ∙ ap (after_pairs l (factors_of l t)) (sym made.pairs_are)

  pub finest_delivered : Ordered l scaled → Finest l scaled (factors_of l t) factors level boundary pairs
  finest_delivered ordered =
      let z = finest l t made.good (subst (Ordered l) scaled-is ordered) made.small in
      rw (scaled-is, factors_are, ← made.level-is, ← made.boundary-is, ← made.pairs_are) z

  pub next-exceeds-delivered : 0 < level → NextExceeds l scaled factors level boundary
  next-exceeds-delivered h =
      let z = next-exceeds l t (omega (arith, made.level-is)) in
      rw (scaled-is, factors_are, ← made.level-is, ← made.boundary-is) z
