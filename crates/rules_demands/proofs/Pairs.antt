-- Demand 2: the pairs that the stage answers, in a success and beside refusal 5, and the factors that it leaves. Assumes nothing.
use mathlib.Core.Path.{◌≡◌, refl, sym, ◌∙◌, ap}
use mathlib.Core.List.{List, [], ◌∷◌}
use mathlib.Core.Logic.{◌↔◌}
use mathlib.Core.Bool.{Bool}
use Prim.Native.Nat.{ℕ, ◌-◌, ◌*◌, ◌/◌, ◌≤◌, ◌<◌}
use native.Mathlib.Omega.{arith}
use lib.Ieee.{Float}
use lib.ListN.{get_or, take, length}
use Rattle.buffers.proofs.Blocks.{length-blocks}
use Rattle.rules.specs.Layout.{start_band, coded_count_at, spectrum_length, factor_length, side_length, part}
use Rattle.rules.specs.Factor.{channel_factors, all_factors}
use Rattle.rules.specs.Scaling.{all_scaled}
use Rattle.rules.specs.Estimate.{exceeds}
use Rattle.rules.specs.Level.{level_of, LevelFound, noise_level}
use Rattle.rules.specs.Refusals.{delivered, refused}
use Rattle.rules.specs.Stage.{StageLent, analysis, analysis_from, delivery, encode_frame}
use Rattle.rules.specs.declared.Layout.{Layout}
use Rattle.rules.proofs.Layouts.{legal_sizes}
use Rattle.rules.proofs.Cuts.{part-of-front}
use Rattle.rules.proofs.Made.{factors-size}
use Rattle.rules_demands.proofs.MadeRecord.{made_factors, made_none}
use Rattle.rules_demands.specs.Pairs.{after_pairs}
use Rattle.rules_demands.proofs.FoundPairs.{factors-after_pairs, level_of-factors, earlier_none, pairs-few, none_every_stage, after_keeps, after_clears}
use Rattle.rules_demands.proofs.Deliveries.{laid_front}
use Rattle.rules_demands.proofs.StageAnswers.{analysis_by, level_by, pairs_by, passes, ends-done, no_level, no_level_pairs, delivers}
use Rattle.rules_demands.proofs.Exactly.{Good, good_passes, passes_good}

-- ---- what the statements name

-- the factors of a call's spectra, before any removal, and the scaled values
abbrev pub factors_of : Layout → StageLent → List ℕ
factors_of l t = all_factors l (take (spectrum_length l) t.spectra)

abbrev pub scaled_of : Layout → StageLent → List Float
scaled_of l t = all_scaled l (take (spectrum_length l) t.spectra) (factors_of l t)

-- what the halving finds at boundary 0 after k removals; 255: none
abbrev pub level_after : Layout → StageLent → ℕ → ℕ
level_after l t k = level_of (λ level. exceeds l (scaled_of l t) (after_pairs l (factors_of l t) k) level 0)

-- the most removals that leave a band: the highest band, at first N - 1, falls by 2 each time
abbrev pub most_pairs : Layout → ℕ
most_pairs l = (start_band l - 1) / 2

module _ (l : Layout) (t : StageLent) where
  abbrev over : List ℕ → ℕ → Bool
  over fs level = exceeds l (scaled_of l t) fs level 0

  found-is : (analysis_by l t).found ≡ noise_level l over (factors_of l t)
  unfolding analysis analysis_from
  found-is = refl

  level-is : level_by l t ≡ (noise_level l over (factors_of l t)).level
  level-is = ap (λ (f : LevelFound). f.level) found-is

  pairs_are : pairs_by l t ≡ (noise_level l over (factors_of l t)).pairs
  pairs_are = ap (λ (f : LevelFound). f.pairs) found-is

  -- Refusal 5 comes exactly where the halving finds no level after any number of removals; beside it stands how many there are.
  pub five_exactly : (p : ℕ) → ((encode_frame l t).outcome ≡ refused 5 p)
      ↔ (Good l t × ((k : ℕ) → k ≤ most_pairs l → level_after l t k ≡ 255) × (p ≡ most_pairs l))
  five_exactly p = (to, from)
    where
      to : (encode_frame l t).outcome ≡ refused 5 p → Good l t × ((k : ℕ) → k ≤ most_pairs l → level_after l t k ≡ 255) × (p ≡ most_pairs l)
      to e =
          let k = passes l t (rw e (omega arith)) in
          let (h, q) = (no_level l t p k).0 e in
          (passes_good l t k, (none_every_stage l over (factors_of l t) (legal_sizes l k.layout)).0 (sym level-is ∙ h), no_level_pairs l t p e)

      from : Good l t × ((k : ℕ) → k ≤ most_pairs l → level_after l t k ≡ 255) × (p ≡ most_pairs l) → (encode_frame l t).outcome ≡ refused 5 p
      from x =
          let (g, h, q) = x in
          let z = legal_sizes l g.layout in
          let none : level_by l t ≡ 255 = level-is ∙ (none_every_stage l over (factors_of l t) z).1 h in
          (no_level l t p (good_passes l t g)).1 (
            none,
            q ∙ sym
                (made_none l (take (spectrum_length l) t.spectra) (take (side_length l) t.intensities) z none),
          )

  factors-long : factor_length l ≤ length (factors_of l t)
  unfolding all_factors
  factors-long =
      omega (
        arith,
        length-blocks (λ c. channel_factors (part 1024 (take (spectrum_length l) t.spectra) c) (coded_count_at l c)) 128 l.channels
            (λ c _. factors-size _ _) l.channels (omega arith),
      )

  -- A call that delivered level, boundary, pairs and n bits:
  module _ (level boundary pairs n : ℕ) (e : (encode_frame l t).outcome ≡ delivered (level ∷ boundary ∷ pairs ∷ n ∷ [])) where
    record Done : Type 0 where
      found : level ≡ (noise_level l over (factors_of l t)).level
      removed : pairs ≡ (noise_level l over (factors_of l t)).pairs
      left : take (factor_length l) (encode_frame l t).factors ≡ (noise_level l over (factors_of l t)).factors
      small : level ≤ 254

    done : Done
    unfolding delivery
    done =
        let k = passes l t (rw e (omega arith)) in
        let (h, g, q) = (delivers l t (level ∷ boundary ∷ pairs ∷ n ∷ []) k).0 e in
        let v : level ≡ level_by l t = cc in
        record {
          found = v ∙ level-is;
          removed = let w : pairs ≡ pairs_by l t = cc in w ∙ pairs_are;
          left = rw (ends-done l t k h g)
              (laid_front (factor_length l) (analysis_by l t).found.factors t.factors
              (made_factors l (take (spectrum_length l) t.spectra) (take (side_length l) t.intensities)))
              ∙ ap (λ (f : LevelFound). f.factors) found-is;
          small = omega arith;
        }

    -- The factors that it leaves are those after so many removals,
    pub factors_left_lem : take (factor_length l) (encode_frame l t).factors ≡ after_pairs l (factors_of l t) pairs
    factors_left_lem = done.left ∙ factors-after_pairs l over (factors_of l t) ∙ ap (after_pairs l (factors_of l t)) (sym done.removed)

    -- the level is what the halving finds with them, and pairs is the least number of removals with which it finds one.
    pub pairs-least : (level_after l t pairs ≡ level) × (level ≤ 254) × (pairs ≤ most_pairs l) × ((k : ℕ) → k < pairs → level_after l t k ≡ 255)
    pairs-least = (
      sym (done.found ∙ level_of-factors l over (factors_of l t) ∙ ap (λ fs. level_of (over fs)) (sym done.left ∙ factors_left_lem)),
      done.small,
      rw done.removed (pairs-few l over (factors_of l t)),
      (λ k h. earlier_none l over (factors_of l t) k (rw done.removed at h)),
    )

    left-part : (c : ℕ) → c < l.channels → part 128 (encode_frame l t).factors c ≡ part 128 (after_pairs l (factors_of l t) pairs) c
    left-part c h = sym (part-of-front 128 l.channels c (encode_frame l t).factors h) ∙ ap (λ fs. part 128 fs c) factors_left_lem

    -- In every channel the bands below N - 2 x pairs keep their factors, so the lowest one or two are never cleared; those from there up to N have 0.
    pub lower_kept : (c b : ℕ) → c < l.channels → b < start_band l - 2 * pairs → get_or (part 128 (encode_frame l t).factors c) b 0
        ≡ get_or (part 128 (factors_of l t) c) b 0
    lower_kept c b h q = rw (left-part c h) (after_keeps l (factors_of l t) factors-long pairs c b h q)

    pub lowest-kept : (c : ℕ) → c < l.channels → 0 < start_band l → get_or (part 128 (encode_frame l t).factors c) 0 0 ≡ get_or (part 128 (factors_of l t) c) 0 0
    lowest-kept c h q = lower_kept c 0 h (omega (arith, pairs-least.2))

    pub upper_cleared : (c b : ℕ) → c < l.channels → start_band l - 2 * pairs ≤ b → b < start_band l → get_or (part 128 (encode_frame l t).factors c) b 0 ≡ 0
    upper_cleared c b h q r =
        let z = legal_sizes l (passes l t (rw e (omega arith))).layout in
        rw (left-part c h) (after_clears l (factors_of l t) factors-long pairs c b (omega (arith, pairs-least.2)) h q r (omega (arith, z.start, z.bands)))
