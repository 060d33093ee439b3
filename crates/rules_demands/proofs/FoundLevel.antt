-- Document 01, **Level**: what the halving finds, over any test and over a falling one. Assumes nothing.
use mathlib.Core.Path.{◌≡◌, refl}
use mathlib.Core.List.{Memᴰ}
use mathlib.Core.Bool.{Bool, true, false, cond}
use mathlib.Core.Logic.{⊎_elim, ◌↔◌}
use Prim.Native.Nat.{ℕ, zero, suc, ◌+◌, ◌-◌, ◌/◌, ◌≤◌, ◌<◌}
use native.Mathlib.Nat.{eq-or-lt_of_le, le_of_suc-le-suc}
use native.Mathlib.Omega.{arith}
use borrow.Author.Tests.{ltb-true, ltb-false}
use lib.Dec.{ltb}
use Rattle.buffers.proofs.Tests.{cond_same, cond_both}
use Rattle.rules.specs.Level.{halve, level_of}
use Rattle.rules.proofs.Cuts.{by_order}
use Rattle.rules.proofs.Levels.{level-le}
use Rattle.rules_demands.proofs.Probes.{probes, level_probes}

-- nothing both fits and exceeds; what does not fit exceeds
pub not-both : {b : Bool} → b ≡ false → b ≡ true → ⊥
not-both e h = let z : ◌≡◌ {A = ℕ} 0 1 = cc in omega arith

exceeds_unless_fits : (b : Bool) → (b ≡ false → ⊥) → b ≡ true
exceeds_unless_fits true h = refl
exceeds_unless_fits false h = absurd (h refl)

-- what high is and stays: 255, or a level that fits
abbrev FitsOrNone : (ℕ → Bool) → ℕ → Type 0
FitsOrNone over x = x ≤ 254 → over x ≡ false

-- what low is and stays: 0, or just above a level that exceeds
abbrev ExceedsBefore : (ℕ → Bool) → ℕ → Type 0
ExceedsBefore over x = 0 < x → over (x - 1) ≡ true

module _ (over : ℕ → Bool) where
  -- high is 255 or a probe that fits, and so is the result
  halve-fits : (n low high : ℕ) → low ≤ high → high - low ≤ n → FitsOrNone over high → FitsOrNone over (halve over n low high)
  unfolding halve
  halve-fits zero low high h enough fits = let z : low ≡ high = omega arith in rw z fits
  halve-fits (suc n) low high h enough fits =
      let mid = (low + high) / 2 in
      cond_both (FitsOrNone over) (ltb low high)
      (λ t. let z : low < high = ltb-true low high t in
      cond_both (FitsOrNone over) (over mid)
      (λ _. halve-fits n (mid + 1) high (omega arith) (omega arith) fits)
      (λ e. halve-fits n low mid (omega arith) (omega arith) (λ _. e)))
      (λ t. let z : low ≡ high = omega (arith, ltb-false low high t) in rw z fits)

  -- low is 0 or follows a probe that exceeds, and so does the result
  halve-exceeds : (n low high : ℕ) → ExceedsBefore over low → ExceedsBefore over (halve over n low high)
  unfolding halve
  halve-exceeds zero low high before = before
  halve-exceeds (suc n) low high before =
      let mid = (low + high) / 2 in
      cond_both (ExceedsBefore over) (ltb low high)
      (λ _. cond_both (ExceedsBefore over) (over mid)
      (λ e. halve-exceeds n (mid + 1) high (λ _. let z : mid + 1 - 1 ≡ mid = omega arith in rw z e))
      (λ _. halve-exceeds n low mid before))
      (λ _. before)

  -- ANY TEST: a level that is found fits
  pub level-fits : level_of over ≤ 254 → over (level_of over) ≡ false
  unfolding level_of
  level-fits = halve-fits 255 0 255 (omega arith) (omega arith) (λ h. absurd (omega arith))

  -- ANY TEST: the level before it exceeds, also where none is found
  pub level-before-exceeds : 0 < level_of over → over (level_of over - 1) ≡ true
  unfolding level_of
  level-before-exceeds = halve-exceeds 255 0 255 (λ h. absurd (omega arith))

  -- ANY TEST: where all of 0 to 254 exceed, there is none
  pub all_exceed_none : ((j : ℕ) → j ≤ 254 → over j ≡ true) → level_of over ≡ 255
  all_exceed_none h =
      ⊎_elim (λ (e : level_of over ≡ 255). e)
      (λ (q : level_of over < 255). absurd (not-both (level-fits (omega arith)) (h (level_of over) (omega arith))))
      (eq-or-lt_of_le (level-le over))

-- a test that falls: once a level fits, so does the next
abbrev pub Falling : (ℕ → Bool) → Type 0
Falling over = (j : ℕ) → j < 254 → over j ≡ false → over (suc j) ≡ false

module _ (over : ℕ → Bool) (falls : Falling over) where
  -- once a level fits, all higher ones do
  falls_on : (j k : ℕ) → j ≤ k → k ≤ 254 → over j ≡ false → over k ≡ false
  falls_on j zero h q e = let z : j ≡ 0 = omega arith in rw z at e
  falls_on j (suc k) h q e =
      ⊎_elim (λ (z : j ≡ suc k). rw z at e) (λ (z : j < suc k). falls k q (falls_on j k (le_of_suc-le-suc z) (omega arith) e)) (eq-or-lt_of_le h)

  -- FALLING TEST: every level below the one found exceeds
  pub below-level-exceeds : (j : ℕ) → j < level_of over → over j ≡ true
  below-level-exceeds j h =
      exceeds_unless_fits (over j)
      (λ e. not-both (falls_on j (level_of over - 1) (omega arith) (omega (arith, level-le over)) e) (level-before-exceeds over (omega arith)))

  -- FALLING TEST: the level found is the least that fits
  pub level-least : (j : ℕ) → over j ≡ false → level_of over ≤ j
  level-least j e =
      by_order j (level_of over) (λ lt. absurd (not-both e (below-level-exceeds j lt))) (λ ge. ge)

  -- FALLING TEST: there is none exactly when all of 0 to 254 exceed
  pub none_all_exceed : (level_of over ≡ 255) ↔ ((j : ℕ) → j ≤ 254 → over j ≡ true)
  none_all_exceed = (λ e j h. below-level-exceeds j (omega arith), all_exceed_none over)

-- ---- the probes

-- two choices by tests that agree
pub cond_choice : {A : Type 0} {a b c d : A} (s t : Bool) → s ≡ t → (s ≡ true → a ≡ c) → (s ≡ false → b ≡ d) → cond s a b ≡ cond t c d
cond_choice s t e f g = rw (← e) (cond_same s f g)

module _ (over other : ℕ → Bool) where
  -- the halving consults its probes alone
  halve_agrees : (n low high : ℕ) → ((p : ℕ) → Memᴰ p (probes over n low high) → over p ≡ other p) → halve over n low high ≡ halve other n low high
  unfolding halve probes
  halve_agrees zero low high h = refl
  halve_agrees (suc n) low high h =
      let mid = (low + high) / 2 in
      cond_same (ltb low high)
      (λ t. cond_choice (over mid) (other mid) (h mid (rw t (Memᴰ.head refl)))
      (λ e. halve_agrees n (mid + 1) high (λ p m. h p (rw (t, e) (Memᴰ.tail m))))
      (λ e. halve_agrees n low mid (λ p m. h p (rw (t, e) (Memᴰ.tail m)))))
      (λ _. refl)

  -- PROBES: a test that agrees on all probes that the halving makes has the same level
  pub probes_decide : ((p : ℕ) → Memᴰ p (level_probes over) → over p ≡ other p) → level_of over ≡ level_of other
  unfolding level_of level_probes
  probes_decide h = halve_agrees 255 0 255 h
