-- Document 01, **Level**: what the removal of pairs finds, stage by stage, over any test. Assumes nothing.
use mathlib.Core.Path.{◌≡◌, refl, sym, ap, ◌∙◌}
use mathlib.Core.List.{List}
use mathlib.Core.Bool.{Bool}
use mathlib.Core.Logic.{⊎_elim, ◌↔◌}
use Prim.Native.Nat.{ℕ, zero, suc, ◌+◌, ◌-◌, ◌*◌, ◌/◌, ◌≤◌, ◌<◌}
use native.Mathlib.Nat.{eq-or-lt_of_le}
use native.Mathlib.Numerals.{add-one}
use native.Mathlib.Omega.{arith}
use borrow.Author.Tests.{ltb-true, ltb-false}
use lib.Dec.{ltb}
use lib.ListN.{length, get_or, set, length-set}
use lib.Seq.{get_or-set_same, get_or-set_other}
use Rattle.buffers.proofs.Tests.{cond_both}
use Rattle.buffers.proofs.Blocks.{length-blocks}
use Rattle.rules.specs.Layout.{LegalLayout, start_band, factor_length, part}
use Rattle.rules.specs.Level.{level_of, clear_two, clear_pair, LevelFound, remove, noise_level}
use Rattle.rules.specs.declared.Layout.{Layout}
use Rattle.rules.proofs.Cuts.{by_order, length_part, block_part, set_keeps}
use Rattle.rules.proofs.Levels.{level-le}
use Rattle.rules_demands.proofs.Searches.{found-level, found_none}
use Rattle.rules_demands.specs.Pairs.{after_pairs}

-- ---- the stages

-- What a search that has come to stage k finds: it goes no further than to the last stage, (N - 1) / 2; its factors are those of the stage at which it ends,
-- and
-- its level is what the halving finds there; at every stage from k on before it the halving finds none.
record Staged (l : Layout) (over : List ℕ → ℕ → Bool) (factors : List ℕ) (k : ℕ) (f : LevelFound) : Type 0 where
  few : f.pairs ≤ k + (start_band l - 2 * k - 1) / 2
  factors_are : f.factors ≡ after_pairs l factors f.pairs
  level-is : f.level ≡ level_of (over f.factors)
  earlier : (j : ℕ) → k ≤ j → j < f.pairs → level_of (over (after_pairs l factors j)) ≡ 255

module _ (l : Layout) (over : List ℕ → ℕ → Bool) (factors : List ℕ) where
  -- it ends at stage k
  ends : (k : ℕ) → Staged l over factors k (record { level = level_of (over (after_pairs l factors k)); pairs = k; factors = after_pairs l factors k })
  ends k = record { few = omega arith; factors_are = refl; level-is = refl; earlier = λ j h q. absurd (omega arith) }

  -- it goes on to the next stage, as none is found
  goes_on : (k : ℕ) (f : LevelFound) → 3 ≤ start_band l - 2 * k → level_of (over (after_pairs l factors k)) ≡ 255 → Staged l over factors (suc k) f
      → Staged l over factors k f
  goes_on k f h none s =
      let few : f.pairs ≤ suc k + (start_band l - 2 * suc k - 1) / 2 = s.few in
      record {
        few = omega arith;
        factors_are = s.factors_are;
        level-is = s.level-is;
        earlier = λ j q m.
            ⊎_elim (λ (z : k ≡ j). rw (sym z) none) (λ (z : k < j). s.earlier j z m) (eq-or-lt_of_le q);
      }

  staged : (n k : ℕ) → Staged l over factors k (remove l over n (start_band l - 2 * k) k (after_pairs l factors k))
  unfolding remove after_pairs
  staged zero k = ends k
  staged (suc n) k =
      cond_both {A = LevelFound} (Staged l over factors k) (ltb 254 (level_of (over (after_pairs l factors k))))
      (λ t. cond_both {A = LevelFound} (Staged l over factors k) (ltb (start_band l - 2 * k) 3)
      (λ _. ends k)
      (λ q. let top : start_band l - 2 * k - 2 ≡ start_band l - 2 * suc k = omega arith in
      let none : level_of (over (after_pairs l factors k))
      ≡ 255 = omega (arith, ltb-true 254 (level_of (over (after_pairs l factors k))) t, level-le (over (after_pairs l factors k))) in
      rw (top, add-one k)
      (goes_on k (remove l over n (start_band l - 2 * suc k) (suc k) (after_pairs l factors (suc k))) (ltb-false (start_band l - 2 * k) 3 q) none
      (staged n (suc k)))))
      (λ _. ends k)

  found : Staged l over factors 0 (noise_level l over factors)
  unfolding noise_level after_pairs
  found = let z : start_band l - 2 * 0 ≡ start_band l = omega arith in rw z at (staged 64 0)

  -- the factors found are those after the pairs found
  pub factors-after_pairs : (noise_level l over factors).factors ≡ after_pairs l factors (noise_level l over factors).pairs
  factors-after_pairs = found.factors_are

  -- the level found is the halving's, with the factors found
  pub level_of-factors : (noise_level l over factors).level ≡ level_of (over (noise_level l over factors).factors)
  level_of-factors = found.level-is

  -- at every earlier stage the halving finds none
  pub earlier_none : (k : ℕ) → k < (noise_level l over factors).pairs → level_of (over (after_pairs l factors k)) ≡ 255
  earlier_none k h = found.earlier k (omega arith) h

  -- there are at most (N - 1) / 2 pairs, and 0 where N is 0
  pub pairs-few : (noise_level l over factors).pairs ≤ (start_band l - 1) / 2
  pairs-few = let h : (noise_level l over factors).pairs ≤ 0 + (start_band l - 2 * 0 - 1) / 2 = found.few in omega arith

  -- where no level is found, all of them are removed
  pub none-all-removed : LegalLayout l → 254 < (noise_level l over factors).level → (noise_level l over factors).pairs ≡ (start_band l - 1) / 2
  none-all-removed z h = found_none l over factors z (omega (arith, found-level l over factors))

  -- no level is found exactly when at every stage up to (N - 1) / 2 the halving finds none
  pub none_every_stage : LegalLayout l → ((noise_level l over factors).level ≡ 255)
      ↔ ((k : ℕ) → k ≤ (start_band l - 1) / 2 → level_of (over (after_pairs l factors k)) ≡ 255)
  none_every_stage z = (every, here)
    where
      at_end : (noise_level l over factors).level ≡ level_of (over (after_pairs l factors (noise_level l over factors).pairs))
      at_end = level_of-factors ∙ ap (λ (fs : List ℕ). level_of (over fs)) factors-after_pairs

      every : (noise_level l over factors).level ≡ 255 → (k : ℕ) → k ≤ (start_band l - 1) / 2 → level_of (over (after_pairs l factors k)) ≡ 255
      every e k h =
          let p : (noise_level l over factors).pairs ≡ (start_band l - 1) / 2 = found_none l over factors z e in
          ⊎_elim (λ (q : k ≡ (noise_level l over factors).pairs). rw q (sym at_end ∙ e)) (λ (q : k < (noise_level l over factors).pairs). earlier_none k q)
          (eq-or-lt_of_le (omega arith))

      here : ((k : ℕ) → k ≤ (start_band l - 1) / 2 → level_of (over (after_pairs l factors k)) ≡ 255) → (noise_level l over factors).level ≡ 255
      here h = at_end ∙ h (noise_level l over factors).pairs pairs-few

-- ---- what a stage keeps

-- clearing two bands keeps those below
clear_two_keeps : (xs : List ℕ) (b i : ℕ) → i < b → get_or (clear_two xs b) i 0 ≡ get_or xs i 0
unfolding clear_two
clear_two_keeps xs b i h = get_or-set_other (set xs b 0) (b + 1) i 0 0 (λ e. omega arith) ∙ get_or-set_other xs b i 0 0 (λ e. omega arith)

-- it makes the two 0, and leaves a 0
clear_two_clears : (xs : List ℕ) (b i : ℕ) → b ≤ i → i < b + 2 → i < length xs → get_or (clear_two xs b) i 0 ≡ 0
unfolding clear_two
clear_two_clears xs b i h q r =
    ⊎_elim
    (λ (e : b ≡ i). set_keeps (λ n. n ≡ 0) 0 refl (set xs b 0) (b + 1) i (rw e (get_or-set_same xs i 0 0 r)))
    (λ (lt : b < i). let e : b + 1 ≡ i = omega arith in rw e (get_or-set_same (set xs b 0) i 0 0 (rw (length-set xs b 0) r)))
    (eq-or-lt_of_le h)

clear_two-leaves : (xs : List ℕ) (b i : ℕ) → get_or xs i 0 ≡ 0 → get_or (clear_two xs b) i 0 ≡ 0
unfolding clear_two
clear_two-leaves xs b i h = set_keeps (λ n. n ≡ 0) 0 refl (set xs b 0) (b + 1) i (set_keeps (λ n. n ≡ 0) 0 refl xs b i h)

module _ (l : Layout) where
  -- a channel's factors stay 128, and a cleared pair is read back channel by channel
  cleared-size : (fs : List ℕ) (b : ℕ) → factor_length l ≤ length fs → (c : ℕ) → c < l.channels → length (clear_two (part 128 fs c) b) ≡ 128
  unfolding clear_two
  cleared-size fs b e c h = simp length-set (length_part 128 l.channels c fs e h)

  length-cleared : (fs : List ℕ) (b : ℕ) → factor_length l ≤ length fs → length (clear_pair l fs b) ≡ factor_length l
  unfolding clear_pair
  length-cleared fs b e = length-blocks (λ c. clear_two (part 128 fs c) b) 128 l.channels (cleared-size fs b e) l.channels (omega arith)

  part-cleared : (fs : List ℕ) (b c : ℕ) → factor_length l ≤ length fs → c < l.channels → part 128 (clear_pair l fs b) c ≡ clear_two (part 128 fs c) b
  unfolding clear_pair
  part-cleared fs b c e h = block_part (λ c. clear_two (part 128 fs c) b) 128 l.channels c (cleared-size fs b e) h

  module _ (factors : List ℕ) (long : factor_length l ≤ length factors) where
    -- no stage makes the factors too short
    pub after-long : (k : ℕ) → factor_length l ≤ length (after_pairs l factors k)
    unfolding after_pairs
    after-long zero = long
    after-long (suc k) = omega (arith, length-cleared (after_pairs l factors k) (start_band l - 2 * suc k) (after-long k))

    -- after k stages every channel keeps its factors of the bands below N - 2k
    pub after_keeps : (k c b : ℕ) → c < l.channels → b < start_band l - 2 * k → get_or (part 128 (after_pairs l factors k) c) b 0 ≡ get_or (part 128 factors c) b 0
    unfolding after_pairs
    after_keeps zero c b h q = refl
    after_keeps (suc k) c b h q =
        rw (part-cleared (after_pairs l factors k) (start_band l - 2 * suc k) c (after-long k) h)
        (clear_two_keeps (part 128 (after_pairs l factors k) c) (start_band l - 2 * suc k) b q ∙ after_keeps k c b h (omega arith))

    -- and has 0 in the bands from there up to N
    pub after_clears : (k c b : ℕ) → 2 * k ≤ start_band l → c < l.channels → start_band l - 2 * k ≤ b → b < start_band l → b < 128
        → get_or (part 128 (after_pairs l factors k) c) b 0 ≡ 0
    unfolding after_pairs
    after_clears zero c b few h q r s = absurd (omega arith)
    after_clears (suc k) c b few h q r s =
        rw (part-cleared (after_pairs l factors k) (start_band l - 2 * suc k) c (after-long k) h)
        (by_order b (start_band l - 2 * k)
        (λ lt. clear_two_clears (part 128 (after_pairs l factors k) c) (start_band l - 2 * suc k) b q (omega arith)
        (omega (arith, length_part 128 l.channels c (after_pairs l factors k) (after-long k) h)))
        (λ ge. clear_two-leaves (part 128 (after_pairs l factors k) c) (start_band l - 2 * suc k) b (after_clears k c b (omega arith) h ge r s)))

    -- the factors found are the first ones in the bands below N - 2 * pairs, in every channel
    pub lower_bands_kept : (over : List ℕ → ℕ → Bool) (c b : ℕ) → c < l.channels → b < start_band l - 2 * (noise_level l over factors).pairs →
        get_or (part 128 (noise_level l over factors).factors c) b 0 ≡ get_or (part 128 factors c) b 0
    lower_bands_kept over c b h q = rw (factors-after_pairs l over factors) (after_keeps (noise_level l over factors).pairs c b h q)
