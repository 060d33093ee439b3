-- What the searches for level and boundary answer, whatever the estimate says. Assumes nothing.
use mathlib.Core.Path.{◌≡◌}
use mathlib.Core.List.{List}
use mathlib.Core.Bool.{Bool}
use Prim.Native.Nat.{ℕ, zero, suc, ◌+◌, ◌-◌, ◌/◌, ◌≤◌, ◌<◌}
use native.Mathlib.Omega.{arith}
use borrow.Author.Tests.{ltb-true, ltb-false, eq-eqb}
use lib.Dec.{ltb}
use Rattle.buffers.proofs.Tests.{cond_both}
use Rattle.rules.specs.Layout.{LegalLayout, start_band}
use Rattle.rules.specs.Level.{level_of, clear_pair, LevelFound, remove, noise_level}
use Rattle.rules.specs.Boundary.{boundary_of}
use Rattle.rules.specs.declared.Layout.{Layout}
use Rattle.rules.proofs.Levels.{level-le}

pub boundary-silent : (level : ℕ) (over : ℕ → Bool) → level ≡ 0 → boundary_of level over ≡ 0
unfolding boundary_of
boundary-silent level over h = rw (eq-eqb level 0 h)

-- ---- the removal of pairs

-- What a search from `top` on, with n removals to go and `pairs` made, comes to: no more pairs than there are above the lowest one or two
-- bands, all of them where no level is found, and factors that still have what clearing a pair keeps.
record Searched (Q : List ℕ → Type 0) (n top pairs : ℕ) (f : LevelFound) : Type 0 where
  level : f.level ≤ 255
  few : f.pairs ≤ pairs + (top - 1) / 2
  none : (top - 1) / 2 ≤ n → f.level ≡ 255 → f.pairs ≡ pairs + (top - 1) / 2
  factors : Q f.factors

module _ (l : Layout) (over : List ℕ → ℕ → Bool) (Q : List ℕ → Type 0) (keeps : (fs : List ℕ) (b : ℕ) → Q fs → Q (clear_pair l fs b)) where
  stopped : (n top pairs : ℕ) (fs : List ℕ) → Q fs → ((top - 1) / 2 ≤ n → level_of (over fs) ≡ 255 → top < 3)
      → Searched Q n top pairs (record { level = level_of (over fs); pairs = pairs; factors = fs })
  stopped n top pairs fs q h = record {
    level = level-le (over fs);
    few = omega arith;
    none = λ m e. let k = h m e in omega arith;
    factors = q;
  }

  one_removal_more : (n top pairs : ℕ) (f : LevelFound) → 3 ≤ top → Searched Q n (top - 2) (pairs + 1) f → Searched Q (suc n) top pairs f
  one_removal_more n top pairs f h s =
      let w : (top - 1) / 2 ≡ suc ((top - 2 - 1) / 2) = omega arith in
      record { level = s.level; few = omega arith; none = λ m e. let k = s.none (omega arith) e in omega arith; factors = s.factors }

  searched : (n top pairs : ℕ) (fs : List ℕ) → Q fs → Searched Q n top pairs (remove l over n top pairs fs)
  unfolding remove
  searched zero top pairs fs q = stopped zero top pairs fs q (λ m _. omega arith)
  searched (suc n) top pairs fs q =
      cond_both {A = LevelFound} (Searched Q (suc n) top pairs) (ltb 254 (level_of (over fs)))
      (λ _. cond_both {A = LevelFound} (Searched Q (suc n) top pairs) (ltb top 3)
      (λ t. stopped (suc n) top pairs fs q (λ _ _. ltb-true top 3 t))
      (λ t. one_removal_more n top pairs (remove l over n (top - 2) (pairs + 1) (clear_pair l fs (top - 2))) (ltb-false top 3 t)
      (searched n (top - 2) (pairs + 1) (clear_pair l fs (top - 2)) (keeps fs (top - 2) q))))
      (λ t. stopped (suc n) top pairs fs q (λ _ e. absurd (omega (arith, ltb-false 254 (level_of (over fs)) t))))

  pub found_keeps : (fs : List ℕ) → Q fs → Q (noise_level l over fs).factors
  unfolding noise_level
  found_keeps fs q = (searched 64 (start_band l) 0 fs q).factors

module _ (l : Layout) (over : List ℕ → ℕ → Bool) (fs : List ℕ) where
  found : Searched (λ _. Unit {0}) 64 (start_band l) 0 (noise_level l over fs)
  unfolding noise_level
  found = searched l over (λ _. Unit {0}) (λ _ _ _. tt) 64 (start_band l) 0 fs tt

  pub found-level : (noise_level l over fs).level ≤ 255
  found-level = found.level

  pub found-few : LegalLayout l → (noise_level l over fs).pairs ≤ 63
  found-few z = let v = found.few in omega arith

  -- refusal 5's number: (N - 1) div 2, and 0 where N is 0
  pub found_none : LegalLayout l → (noise_level l over fs).level ≡ 255 → (noise_level l over fs).pairs ≡ (start_band l - 1) / 2
  found_none z e = let v = found.none (omega arith) e in omega arith
