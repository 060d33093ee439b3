-- Document 01, **Level**: the laws that the two loops cite. Assumes nothing.
use mathlib.Core.Path.{◌≡◌, refl, ◌∙◌}
use mathlib.Core.List.{List}
use mathlib.Core.Bool.{Bool, true, false, cond}
use Prim.Native.Nat.{ℕ, zero, suc, ◌+◌, ◌-◌, ◌/◌, ◌≤◌, ◌<◌}
use native.Mathlib.Nat.{le_trans, not-suc-le-zero}
use native.Mathlib.Numerals.{sub-one}
use native.Mathlib.Omega.{arith}
use borrow.Author.Tests.{lt-ltb, le-ltb, ltb-true}
use lib.Dec.{ltb}
use Rattle.buffers.proofs.Tests.{cond_same, cond_bound}
use Rattle.buffers.proofs.Scan.{left-suc}
use Rattle.rules.specs.Level.{halve, level_of, clear_pair, LevelFound, remove}
use Rattle.rules.specs.declared.Layout.{Layout}

module _ (over : ℕ → Bool) where
  -- any n from high - low on gives the same
  pub halve_enough : (j k low high : ℕ) → high - low ≤ j → high - low ≤ k → halve over j low high ≡ halve over k low high
  unfolding halve
  halve_enough zero zero low high a b = refl
  halve_enough zero (suc k) low high a b = let z : high ≤ low = omega arith in rw (le-ltb low high z)
  halve_enough (suc j) zero low high a b = let z : high ≤ low = omega arith in rw (le-ltb low high z)
  halve_enough (suc j) (suc k) low high a b =
      cond_same (ltb low high)
      (λ e. let z : low < high = ltb-true low high e in
      cond_same (over ((low + high) / 2))
      (λ q. halve_enough j k ((low + high) / 2 + 1) high (omega arith) (omega arith))
      (λ q. halve_enough j k low ((low + high) / 2) (omega arith) (omega arith)))
      (λ e. refl)

  halve-turn : (low high : ℕ) → low < high → halve over (high - low) low high
      ≡ cond (over ((low + high) / 2)) (halve over (high - ((low + high) / 2 + 1)) ((low + high) / 2 + 1) high)
      (halve over ((low + high) / 2 - low) low ((low + high) / 2))
  unfolding halve
  halve-turn low high h =
      rw (left-suc high low h, lt-ltb low high h)
      (cond_same (over ((low + high) / 2))
      (λ q. halve_enough (high - suc low) (high - ((low + high) / 2 + 1)) ((low + high) / 2 + 1) high (omega arith) (omega arith))
      (λ q. halve_enough (high - suc low) ((low + high) / 2 - low) low ((low + high) / 2) (omega arith) (omega arith)))

  -- a turn of the loop, and its end
  pub halve_up : (low high : ℕ) → low < high → over ((low + high) / 2) ≡ true →
      halve over (high - low) low high ≡ halve over (high - ((low + high) / 2 + 1)) ((low + high) / 2 + 1) high
  halve_up low high h e = halve-turn low high h ∙ rw e

  pub halve-down : (low high : ℕ) → low < high → over ((low + high) / 2) ≡ false →
      halve over (high - low) low high ≡ halve over ((low + high) / 2 - low) low ((low + high) / 2)
  halve-down low high h e = halve-turn low high h ∙ rw e

  pub halve_end : (low high : ℕ) → high ≤ low → halve over (high - low) low high ≡ low
  unfolding halve
  halve_end low high h = let z : high - low ≡ 0 = omega arith in rw z

  pub level-start : level_of over ≡ halve over (255 - 0) 0 255
  unfolding level_of
  level-start = refl

  pub halve-le : (n low high : ℕ) → low ≤ high → halve over n low high ≤ high
  unfolding halve
  halve-le zero low high h = h
  halve-le (suc n) low high h =
      cond_bound (ltb low high)
      (λ e. let z : low < high = ltb-true low high e in
      cond_bound (over ((low + high) / 2))
      (λ q. halve-le n ((low + high) / 2 + 1) high (omega arith))
      (λ q. le_trans (halve-le n low ((low + high) / 2) (omega arith)) (omega arith)))
      (λ e. h)

  pub level-le : level_of over ≤ 255
  unfolding level_of
  level-le = halve-le 255 0 255 (omega arith)

cond-is : {A : Type 0} {a b c : A} (t : Bool) → (t ≡ true → a ≡ c) → (t ≡ false → b ≡ c) → cond t a b ≡ c
cond-is true f g = f refl
cond-is false f g = g refl

-- THE REMOVAL, as its loop takes it
abbrev pub found_at : (List ℕ → ℕ → Bool) → ℕ → List ℕ → LevelFound
found_at over pairs factors = record { level = level_of (over factors); pairs = pairs; factors = factors }

module _ (l : Layout) (over : List ℕ → ℕ → Bool) (top pairs : ℕ) (factors : List ℕ) where
  pub remove-done : (n : ℕ) → level_of (over factors) ≤ 254 → remove l over n top pairs factors ≡ found_at over pairs factors
  unfolding remove
  remove-done zero h = refl
  remove-done (suc n) h = rw (le-ltb 254 (level_of (over factors)) h)

  pub remove_stop : (n : ℕ) → top < 3 → remove l over n top pairs factors ≡ found_at over pairs factors
  unfolding remove
  remove_stop zero h = refl
  remove_stop (suc n) h = rw (lt-ltb top 3 h) (cond-is (ltb 254 (level_of (over factors))) (λ _. refl) (λ _. refl))

  pub remove-turn : (n : ℕ) → 254 < level_of (over factors) → 3 ≤ top → 0 < n →
      remove l over n top pairs factors ≡ remove l over (n - 1) (top - 2) (pairs + 1) (clear_pair l factors (top - 2))
  unfolding remove
  remove-turn zero h q r = absurd (not-suc-le-zero r)
  remove-turn (suc n) h q r = rw (lt-ltb 254 (level_of (over factors)) h, le-ltb top 3 q, sub-one) refl
