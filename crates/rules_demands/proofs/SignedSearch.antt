-- Document 01, **Boundary**, and request A11: the search as the Rust has it, over signed numbers, with `(high - low).abs() > 1` and -1 for none. It answers the
-- boundary of the rules, whatever the estimates are; so -1 never comes. Assumes nothing.
use mathlib.Core.Path.{◌≡◌, refl, sym, ◌∙◌, ap}
use mathlib.Core.Bool.{Bool, true, false, cond}
use Prim.Native.Nat.{ℕ, zero, suc, ◌+◌, ◌-◌, ◌/◌, ◌≤◌, ◌<◌}
use native.Mathlib.Omega.{arith}
use borrow.Author.Tests.{lt-ltb, le-ltb, ltb-true}
use lib.Dec.{ltb, eqb}
use lib.IntN.{ℤ, pos, negsuc, ◌+ℤ◌, ◌-ℤ◌, nat_abs}
use lib.Signed.{lt_z, quot_z}
use Rattle.rules.specs.Boundary.{last_of, narrow, search_boundary}
use Rattle.rules.proofs.Boundaries.{narrow_enough}
use Rattle.rules.proofs.Cuts.{by_order}

-- ---- the Rust's text

abbrev same_z : (a b : ℤ) → Bool
same_z (pos a) (pos b) = eqb a b
same_z (pos a) (negsuc b) = false
same_z (negsuc a) (pos b) = false
same_z (negsuc a) (negsuc b) = eqb a b

-- (high - low).abs() > 1
abbrev pub is_apart : (low high : ℤ) → Bool
is_apart low high = lt_z (pos 1) (pos (nat_abs (high -ℤ low)))

-- behind the loop; `over` is whether the bits at a boundary are more than there are
unfoldable pub signed_last : (over : ℤ → Bool) (max low high : ℤ) → ℤ
signed_last over max low high = cond (same_z low high) (cond (lt_z low max) low (negsuc 0)) (cond (over high) low high)

-- the loop, for at most so many turns
unfoldable pub signed_narrow : (over : ℤ → Bool) (max : ℤ) (turns : ℕ) (low high : ℤ) → ℤ
signed_narrow over max zero low high = signed_last over max low high
signed_narrow over max (suc n) low high =
    let mid = quot_z (low +ℤ high) (pos 2) in
    cond (is_apart low high) (cond (over mid) (signed_narrow over max n low (mid -ℤ pos 1)) (signed_narrow over max n mid high)) (signed_last over max low high)

unfoldable pub signed_search : (over : ℤ → Bool) (turns : ℕ) → ℤ
signed_search over n = signed_narrow over (pos 127) n (pos 0) (pos 127)

-- ---- the two tests are one

-- a difference that is not below zero
difference : (a b : ℕ) → b ≤ a → pos a -ℤ pos b ≡ pos (a - b)
difference a zero h = let q : a + 0 ≡ a - 0 = omega arith in ap pos q
difference a (suc b) h = rw (le-ltb a (suc b) h)

pub apart-is : (low high : ℕ) → low ≤ high → is_apart (pos low) (pos high) ≡ ltb (low + 1) high
apart-is low high h =
    ap (λ (z : ℤ). lt_z (pos 1) (pos (nat_abs z))) (difference high low h)
    ∙ by_order (low + 1) high (λ lt. lt-ltb 1 (high - low) (omega arith) ∙ sym (lt-ltb (low + 1) high lt))
    (λ ge. le-ltb 1 (high - low) (omega arith) ∙ sym (le-ltb (low + 1) high ge))

-- a choice of numbers that are not below zero
cond_pos : {x y : ℤ} {a b : ℕ} (s t : Bool) → s ≡ t → (t ≡ true → x ≡ pos a) → (t ≡ false → y ≡ pos b) → cond s x y ≡ pos (cond t a b)
cond_pos s true e f g = rw e (f refl)
cond_pos s false e f g = rw e (g refl)

module _ (over : ℤ → Bool) where
  -- the estimates, by boundaries from 0 on
  abbrev pub over_at : (boundary : ℕ) → Bool
  over_at b = over (pos b)

  last-is : (low high : ℕ) → low ≤ 126 → signed_last over (pos 127) (pos low) (pos high) ≡ pos (last_of over_at low high)
  unfolding signed_last last_of
  last-is low high h =
      let z : low < 127 = omega arith in
      cond_pos (eqb low high) (eqb low high) refl (λ _. rw (lt-ltb low 127 z)) (λ _. cond_pos (over_at high) (over_at high) refl (λ _. refl) (λ _. refl))

  -- low stays below 127, and high at or above low
  narrow-is : (n low high : ℕ) → low ≤ high → low ≤ 126 → high ≤ 127
      → signed_narrow over (pos 127) n (pos low) (pos high) ≡ pos (narrow over_at n low high)
  unfolding signed_narrow narrow
  narrow-is zero low high g h q = last-is low high h
  narrow-is (suc n) low high g h q =
      let mid : ℕ = (low + high) / 2 in
      cond_pos (is_apart (pos low) (pos high)) (ltb (low + 1) high) (apart-is low high g)
      (λ e. let z : low + 1 < high = ltb-true (low + 1) high e in
      cond_pos (over_at mid) (over_at mid) refl
      (λ _. ap (signed_narrow over (pos 127) n (pos low)) (difference mid 1 (omega arith)) ∙ narrow-is n low (mid - 1) (omega arith) h (omega arith))
      (λ _. narrow-is n mid high (omega arith) (omega arith) q))
      (λ _. last-is low high h)

  -- Whatever is over: the Rust's search over 0..127 answers the boundary of the rules, and not -1; 127 turns are enough for it.
  pub signed-answers : (n : ℕ) → 127 ≤ n → signed_search over n ≡ pos (search_boundary over_at)
  unfolding signed_search search_boundary
  signed-answers n h = narrow-is n 0 127 (omega arith) (omega arith) (omega arith) ∙ ap pos (narrow_enough over_at n 127 0 127 (omega arith) (omega arith))
