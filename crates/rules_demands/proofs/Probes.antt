-- Document 01, **Level**: what the halving probes, and when there is no level. Assumes nothing.
use mathlib.Core.Path.{◌≡◌, refl, sym, ap, ◌∙◌}
use mathlib.Core.List.Memᴰ
use mathlib.Core.List.{List, [], ◌∷◌, Memᴰ}
use mathlib.Core.Bool.{Bool, true, false, cond}
use mathlib.Core.Logic.{⊎_elim}
use Prim.Native.Nat.{ℕ, zero, suc, ◌+◌, ◌-◌, ◌/◌, ◌≤◌, ◌<◌}
use native.Mathlib.Nat.{eq-or-lt_of_le}
use native.Mathlib.Omega.{arith}
use borrow.Author.Tests.{lt-ltb, le-ltb, ltb-true}
use lib.Dec.{ltb}
use Rattle.rules.specs.Level.{halve, level_of}
use Rattle.rules.proofs.Levels.{halve-le, level-le}

-- THE PROBES of the halving, in their order
unfoldable pub probes : (ℕ → Bool) → ℕ → ℕ → ℕ → List ℕ
probes over zero low high = []
probes over (suc n) low high =
    let mid = (low + high) / 2 in
    cond (ltb low high) (mid ∷ cond (over mid) (probes over n (mid + 1) high) (probes over n low mid)) []

unfoldable pub level_probes : (ℕ → Bool) → List ℕ
level_probes over = probes over 255 0 255

mem_cond : {p : ℕ} {xs ys : List ℕ} {P : Type 0} (t : Bool) → (t ≡ true → Memᴰ p xs → P) → (t ≡ false → Memᴰ p ys → P) → Memᴰ p (cond t xs ys)
    → P
mem_cond true f g m = f refl m
mem_cond false f g m = g refl m

module _ (over : ℕ → Bool) where
  -- every probe lies below high
  probes-lt : (n low high p : ℕ) → Memᴰ p (probes over n low high) → p < high
  unfolding probes
  probes-lt zero low high p m = absurd (Memᴰ.not-nil m)
  probes-lt (suc n) low high p m =
      mem_cond (ltb low high)
      (λ e r. let z : low < high = ltb-true low high e in
      ⊎_elim (λ (q : p ≡ (low + high) / 2). omega arith)
      (λ i. mem_cond (over ((low + high) / 2))
      (λ _ j. probes-lt n ((low + high) / 2 + 1) high p j)
      (λ _ j. omega (arith, probes-lt n low ((low + high) / 2) p j)) i)
      (Memᴰ.cases_cons r))
      (λ e r. absurd (Memᴰ.not-nil r)) m

  halve-done : (n low high : ℕ) → high ≤ low → halve over n low high ≡ low
  unfolding halve
  halve-done zero low high h = refl
  halve-done (suc n) low high h = rw (le-ltb low high h)

  -- the search ends at high only by the probe high - 1, which exceeds
  ended_probed : (n low high : ℕ) → low < high → high - low ≤ n → halve over n low high ≡ high →
      Memᴰ (high - 1) (probes over n low high) × (over (high - 1) ≡ true)
  unfolding halve probes
  ended_probed zero low high z enough e = absurd (omega arith)
  ended_probed (suc n) low high z enough e =
      let mid = (low + high) / 2 in
      rw (lt-ltb low high z)
      (step (over mid) refl (rw (lt-ltb low high z) at e) (λ more done. ended_probed n (mid + 1) high more (omega arith) done)
      (halve-le over n low mid (omega arith)))
    where
      step : (t : Bool) → over ((low + high) / 2) ≡ t →
          cond t (halve over n ((low + high) / 2 + 1) high) (halve over n low ((low + high) / 2)) ≡ high →
          ((low + high) / 2 + 1 < high → halve over n ((low + high) / 2 + 1) high ≡ high →
          Memᴰ (high - 1) (probes over n ((low + high) / 2 + 1) high) × (over (high - 1) ≡ true)) →
          halve over n low ((low + high) / 2) ≤ (low + high) / 2 →
          Memᴰ (high - 1) ((low + high) / 2 ∷ cond t (probes over n ((low + high) / 2 + 1) high) (probes over n low ((low + high) / 2)))
          × (over (high - 1) ≡ true)
      step true q e f b =
          let middle : (low + high) / 2 + 1 ≤ high = omega arith in
          ⊎_elim
          (λ (x : (low + high) / 2 + 1 ≡ high). let y : high - 1 ≡ (low + high) / 2 = omega arith in (Memᴰ.head y, ap over y ∙ q))
          (λ (x : (low + high) / 2 + 1 < high). let r = f x e in (Memᴰ.tail r.0, r.1))
          (eq-or-lt_of_le middle)
      step false q e f b = absurd (omega arith)

  probed_turn : (n low high : ℕ) → low < high → over (high - 1) ≡ true →
      Memᴰ (high - 1) ((low + high) / 2 ∷ cond (over ((low + high) / 2)) (probes over n ((low + high) / 2 + 1) high)
      (probes over n low ((low + high) / 2))) →
      (Memᴰ (high - 1) (probes over n ((low + high) / 2 + 1) high) → halve over n ((low + high) / 2 + 1) high ≡ high) →
      cond (over ((low + high) / 2)) (halve over n ((low + high) / 2 + 1) high) (halve over n low ((low + high) / 2)) ≡ high
  probed_turn n low high z e m f =
      ⊎_elim
      (λ (x : high - 1 ≡ (low + high) / 2).
      let y : (low + high) / 2 + 1 ≡ high = omega arith in
      rw (sym (ap over x) ∙ e) (halve-done n ((low + high) / 2 + 1) high (omega arith) ∙ y))
      (λ (i : Memᴰ (high - 1) (cond (over ((low + high) / 2)) (probes over n ((low + high) / 2 + 1) high) (probes over n low ((low + high) / 2)))).
      mem_cond (over ((low + high) / 2))
      (λ q j. rw q (f j))
      (λ q j. absurd (below (probes-lt n low ((low + high) / 2) (high - 1) j))) i)
      (Memᴰ.cases_cons m)
    where
      below : high - 1 < (low + high) / 2 → ⊥
      below h = omega arith

  probed_ended : (n low high : ℕ) → Memᴰ (high - 1) (probes over n low high) → over (high - 1) ≡ true → halve over n low high ≡ high
  unfolding halve probes
  probed_ended zero low high m e = absurd (Memᴰ.not-nil m)
  probed_ended (suc n) low high m e =
      mem_cond (ltb low high)
      (λ t r. rw t (probed_turn n low high (ltb-true low high t) e r (λ j. probed_ended n ((low + high) / 2 + 1) high j e)))
      (λ t r. absurd (Memᴰ.not-nil r)) m

  -- There is none exactly when the halving comes to probe 254 and that exceeds; the result is at most 254 otherwise. No probe is above 254.
  pub none_probed : level_of over ≡ 255 → Memᴰ 254 (level_probes over) × (over 254 ≡ true)
  unfolding level_of level_probes
  none_probed e = ended_probed 255 0 255 (omega arith) (omega arith) e

  pub probed_none : Memᴰ 254 (level_probes over) → over 254 ≡ true → level_of over ≡ 255
  unfolding level_of level_probes
  probed_none m e = probed_ended 255 0 255 m e

  pub level_found_lem : (level_of over ≡ 255 → ⊥) → level_of over ≤ 254
  level_found_lem h = omega (arith, level-le over)

  pub level_probes_lem : (p : ℕ) → Memᴰ p (level_probes over) → p ≤ 254
  unfolding level_probes
  level_probes_lem p m = omega (arith, probes-lt 255 0 255 p m)
