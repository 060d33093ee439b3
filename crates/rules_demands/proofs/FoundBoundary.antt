-- Document 01, **Boundary**: what the search over 0..127 finds, over any test and over a rising one. Assumes nothing.
use mathlib.Core.Path.{◌≡◌, refl}
use mathlib.Core.List.{List, [], ◌∷◌, Memᴰ}
use mathlib.Core.Bool.{Bool, true, false, cond}
use mathlib.Core.Logic.{⊎_elim, ◌⊎◌, inl, inr}
use Prim.Native.Nat.{ℕ, zero, suc, ◌+◌, ◌-◌, ◌/◌, ◌≤◌, ◌<◌}
use native.Mathlib.Nat.{eq-or-lt_of_le, le_of_suc-le-suc}
use native.Mathlib.Omega.{arith}
use borrow.Author.Tests.{ltb-true, ltb-false, eqb-true, eqb-false, ne_eqb}
use lib.Dec.{ltb, eqb}
use Rattle.buffers.proofs.Tests.{cond_same, cond_both}
use Rattle.rules.specs.Boundary.{last_of, narrow, search_boundary, boundary_of}
use Rattle.rules.proofs.Cuts.{by_order}
use Rattle.rules.proofs.Boundaries.{boundary-le}
use Rattle.rules_demands.proofs.FoundLevel.{not-both, cond_choice}

-- a boundary that fits if 0 does, and after which comes one that exceeds, or it is 127
record Edge (over : ℕ → Bool) (x : ℕ) : Type 0 where
  fits : over 0 ≡ false → over x ≡ false
  next : x < 127 → over (suc x) ≡ true

module _ (over : ℕ → Bool) where
  -- where the loop stops, one or two are left
  last-edge : (low high : ℕ) → low ≤ high → high ≤ low + 1 → low ≤ 126 → high ≤ 127 → (over 0 ≡ false → over low ≡ false)
      → (high < 127 → over (suc high) ≡ true)
      → Edge over (last_of over low high)
  unfolding last_of
  last-edge low high h near few most fits next =
      cond_both (Edge over) (eqb low high)
      (λ t. let z : low ≡ high = eqb-true low high t in record { fits = fits; next = λ q. rw z (next (omega arith)) })
      (λ t. cond_both (Edge over) (over high)
      (λ e. record { fits = fits; next = λ q. let z : suc low ≡ high = one_apart t in rw z e })
      (λ e. record { fits = λ _. e; next = next }))
    where
      one_apart : eqb low high ≡ false → suc low ≡ high
      one_apart t = by_order low high (λ lt. omega arith) (λ ge. absurd (eqb-false low high t (omega arith)))

  -- low is 0 or a probe that fits; high is 127 or comes just before a probe that exceeds
  narrow-edge : (n low high : ℕ) → low ≤ high → high - low ≤ n → low ≤ 126 → high ≤ 127 → (over 0 ≡ false → over low ≡ false)
      → (high < 127 → over (suc high) ≡ true)
      → Edge over (narrow over n low high)
  unfolding narrow
  narrow-edge zero low high h enough few most fits next = last-edge low high h (omega arith) few most fits next
  narrow-edge (suc n) low high h enough few most fits next =
      let mid = (low + high) / 2 in
      cond_both (Edge over) (ltb (low + 1) high)
      (λ t. let z : low + 1 < high = ltb-true (low + 1) high t in
      cond_both (Edge over) (over mid)
      (λ e. narrow-edge n low (mid - 1) (omega arith) (omega arith) few (omega arith) fits (λ _. let y : suc (mid - 1) ≡ mid = omega arith in rw y e))
      (λ e. narrow-edge n mid high (omega arith) (omega arith) (omega arith) most (λ _. e) next))
      (λ t. last-edge low high h (ltb-false (low + 1) high t) few most fits next)

  edge : Edge over (search_boundary over)
  unfolding search_boundary
  edge = narrow-edge 127 0 127 (omega arith) (omega arith) (omega arith) (omega arith) (λ e. e) (λ h. absurd (omega arith))

  -- ANY TEST: the boundary fits if 0 does
  pub boundary-fits : over 0 ≡ false → over (search_boundary over) ≡ false
  boundary-fits = edge.fits

  -- ANY TEST: the boundary after it exceeds, unless it is 127
  pub boundary_next-exceeds : search_boundary over < 127 → over (suc (search_boundary over)) ≡ true
  boundary_next-exceeds = edge.next

  -- the same as a choice
  pub boundary-last-or-next : (search_boundary over ≡ 127) ⊎ (over (suc (search_boundary over)) ≡ true)
  boundary-last-or-next =
      by_order (search_boundary over) 127 (λ lt. inr (boundary_next-exceeds lt)) (λ ge. inl (omega (arith, boundary-le over)))

  -- ANY TEST: where all of 1 to 127 fit, the boundary is 127
  pub all_fit_last : ((b : ℕ) → 0 < b → b ≤ 127 → over b ≡ false) → search_boundary over ≡ 127
  all_fit_last h =
      by_order (search_boundary over) 127
      (λ lt. absurd (not-both (h (suc (search_boundary over)) (omega arith) (omega arith)) (boundary_next-exceeds lt)))
      (λ ge. omega (arith, boundary-le over))

  -- above level 0 the boundary is the search's
  pub boundary_searched : (level : ℕ) → 0 < level → boundary_of level over ≡ search_boundary over
  unfolding boundary_of
  boundary_searched level h = rw (ne_eqb level 0 (λ e. omega arith))

-- 127 can be the answer
pub boundary_can_be_last : search_boundary (λ _. false) ≡ 127
boundary_can_be_last = all_fit_last (λ _. false) (λ _ _ _. refl)

-- a test that rises: once a boundary exceeds, so does the next
abbrev pub Rising : (ℕ → Bool) → Type 0
Rising over = (b : ℕ) → b < 127 → over b ≡ true → over (suc b) ≡ true

module _ (over : ℕ → Bool) (rises : Rising over) where
  -- once a boundary exceeds, all higher ones do
  rises_on : (j k : ℕ) → j ≤ k → k ≤ 127 → over j ≡ true → over k ≡ true
  rises_on j zero h q e = let z : j ≡ 0 = omega arith in rw z at e
  rises_on j (suc k) h q e =
      ⊎_elim (λ (z : j ≡ suc k). rw z at e) (λ (z : j < suc k). rises k q (rises_on j k (le_of_suc-le-suc z) (omega arith) e)) (eq-or-lt_of_le h)

  -- RISING TEST: every boundary above the one found exceeds
  pub above-boundary-exceeds : (b : ℕ) → search_boundary over < b → b ≤ 127 → over b ≡ true
  above-boundary-exceeds b h q = rises_on (suc (search_boundary over)) b h q (boundary_next-exceeds over (omega arith))

  -- RISING TEST: the boundary found is the largest of 0 to 127 that fits
  pub boundary_largest : (b : ℕ) → b ≤ 127 → over b ≡ false → b ≤ search_boundary over
  boundary_largest b q e =
      by_order (search_boundary over) b (λ lt. absurd (not-both e (above-boundary-exceeds b lt q))) (λ ge. ge)

-- ---- the probes

-- what the search probes where its loop stops, and in all
unfoldable pub last_probes : ℕ → ℕ → List ℕ
last_probes low high = cond (eqb low high) [] (high ∷ [])

unfoldable pub narrow_probes : (ℕ → Bool) → ℕ → ℕ → ℕ → List ℕ
narrow_probes over zero low high = last_probes low high
narrow_probes over (suc n) low high =
    let mid = (low + high) / 2 in
    cond (ltb (low + 1) high) (mid ∷ cond (over mid) (narrow_probes over n low (mid - 1)) (narrow_probes over n mid high)) (last_probes low high)

unfoldable pub boundary_probes : (ℕ → Bool) → List ℕ
boundary_probes over = narrow_probes over 127 0 127

module _ (over other : ℕ → Bool) where
  last_agrees : (low high : ℕ) → ((p : ℕ) → Memᴰ p (last_probes low high) → over p ≡ other p) → last_of over low high ≡ last_of other low high
  unfolding last_of last_probes
  last_agrees low high h = cond_same (eqb low high) (λ _. refl) (λ t. rw (h high (rw t (Memᴰ.head refl))))

  narrow_agrees : (n low high : ℕ) → ((p : ℕ) → Memᴰ p (narrow_probes over n low high) → over p ≡ other p) → narrow over n low high
      ≡ narrow other n low high
  unfolding narrow narrow_probes
  narrow_agrees zero low high h = last_agrees low high h
  narrow_agrees (suc n) low high h =
      let mid = (low + high) / 2 in
      cond_same (ltb (low + 1) high)
      (λ t. cond_choice (over mid) (other mid) (h mid (rw t (Memᴰ.head refl)))
      (λ e. narrow_agrees n low (mid - 1) (λ p m. h p (rw (t, e) (Memᴰ.tail m))))
      (λ e. narrow_agrees n mid high (λ p m. h p (rw (t, e) (Memᴰ.tail m)))))
      (λ t. last_agrees low high (λ p m. h p (rw t m)))

  -- PROBES: a test that agrees on all probes that the search makes has the same boundary
  pub boundary_probes_decide : ((p : ℕ) → Memᴰ p (boundary_probes over) → over p ≡ other p) → search_boundary over ≡ search_boundary other
  unfolding search_boundary boundary_probes
  boundary_probes_decide h = narrow_agrees 127 0 127 h
