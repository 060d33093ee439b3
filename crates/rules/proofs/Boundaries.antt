-- Document 01, **Boundary**: the laws that the search's loop cites, and that it always answers. Assumes nothing.
use mathlib.Core.Path.{◌≡◌, refl, ◌∙◌}
use mathlib.Core.Bool.{Bool, true, false, cond}
use mathlib.Core.Option.{Option, none, some}
use Prim.Native.Nat.{ℕ, zero, suc, ◌+◌, ◌-◌, ◌/◌, ◌≤◌, ◌<◌}
use native.Mathlib.Omega.{arith}
use borrow.Author.Tests.{lt-ltb, le-ltb, ltb-true}
use lib.Dec.{ltb, eqb}
use Rattle.buffers.proofs.Tests.{cond_same, cond_bound}
use Rattle.buffers.proofs.Scan.{left-suc}
use Rattle.rules.specs.Boundary.{last_of, narrow, search_boundary, boundary_of}

module _ (over : ℕ → Bool) where
  -- any n from high - low on gives the same
  pub narrow_enough : (j k low high : ℕ) → high - low ≤ j → high - low ≤ k → narrow over j low high ≡ narrow over k low high
  unfolding narrow
  narrow_enough zero zero low high a b = refl
  narrow_enough zero (suc k) low high a b = let z : high ≤ low + 1 = omega arith in rw (le-ltb (low + 1) high z)
  narrow_enough (suc j) zero low high a b = let z : high ≤ low + 1 = omega arith in rw (le-ltb (low + 1) high z)
  narrow_enough (suc j) (suc k) low high a b =
      cond_same (ltb (low + 1) high)
      (λ e. let z : low + 1 < high = ltb-true (low + 1) high e in
      cond_same (over ((low + high) / 2))
      (λ q. narrow_enough j k low ((low + high) / 2 - 1) (omega arith) (omega arith))
      (λ q. narrow_enough j k ((low + high) / 2) high (omega arith) (omega arith)))
      (λ e. refl)

  narrow-turn : (low high : ℕ) → low + 1 < high → narrow over (high - low) low high
      ≡ cond (over ((low + high) / 2)) (narrow over ((low + high) / 2 - 1 - low) low ((low + high) / 2 - 1))
      (narrow over (high - (low + high) / 2) ((low + high) / 2) high)
  unfolding narrow
  narrow-turn low high h =
      let l : low < high = omega arith in
      rw (left-suc high low l, lt-ltb (low + 1) high h)
      (cond_same (over ((low + high) / 2))
      (λ q. narrow_enough (high - suc low) ((low + high) / 2 - 1 - low) low ((low + high) / 2 - 1) (omega arith) (omega arith))
      (λ q. narrow_enough (high - suc low) (high - (low + high) / 2) ((low + high) / 2) high (omega arith) (omega arith)))

  -- a turn of the loop, and its end
  pub narrow-down : (low high : ℕ) → low + 1 < high → over ((low + high) / 2) ≡ true →
      narrow over (high - low) low high ≡ narrow over ((low + high) / 2 - 1 - low) low ((low + high) / 2 - 1)
  narrow-down low high h e = narrow-turn low high h ∙ rw e

  pub narrow_up : (low high : ℕ) → low + 1 < high → over ((low + high) / 2) ≡ false →
      narrow over (high - low) low high ≡ narrow over (high - (low + high) / 2) ((low + high) / 2) high
  narrow_up low high h e = narrow-turn low high h ∙ rw e

  pub narrow_end : (n low high : ℕ) → high ≤ low + 1 → narrow over n low high ≡ last_of over low high
  unfolding narrow
  narrow_end zero low high h = refl
  narrow_end (suc n) low high h = rw (le-ltb (low + 1) high h)

  pub boundary_start : search_boundary over ≡ narrow over (127 - 0) 0 127
  unfolding search_boundary
  boundary_start = refl

  last-le : (low high : ℕ) → low ≤ 126 → high ≤ 127 → last_of over low high ≤ 127
  unfolding last_of
  last-le low high h q = cond_bound (eqb low high) (λ _. omega arith) (λ _. cond_bound (over high) (λ _. omega arith) (λ _. omega arith))

  narrow-le : (n low high : ℕ) → low ≤ 126 → high ≤ 127 → narrow over n low high ≤ 127
  unfolding narrow
  narrow-le zero low high h q = last-le low high h q
  narrow-le (suc n) low high h q =
      cond_bound (ltb (low + 1) high)
      (λ e. let z : low + 1 < high = ltb-true (low + 1) high e in
      cond_bound (over ((low + high) / 2))
      (λ _. narrow-le n low ((low + high) / 2 - 1) h (omega arith))
      (λ _. narrow-le n ((low + high) / 2) high (omega arith) q))
      (λ _. last-le low high h q)

  pub boundary-le : search_boundary over ≤ 127
  unfolding search_boundary
  boundary-le = narrow-le 127 0 127 (omega arith) (omega arith)

  pub boundary_of-le : (level : ℕ) → boundary_of level over ≤ 127
  unfolding boundary_of
  boundary_of-le level = cond_bound (eqb level 0) (λ _. omega arith) (λ _. boundary-le)

-- ---- the search always answers

-- the Rust's text, with its none where low and high meet at 127
unfoldable pub published_last : (over : ℕ → Bool) (low high : ℕ) → Option ℕ
published_last over low high = cond (eqb low high) (cond (ltb low 127) (some low) none) (some (cond (over high) low high))

unfoldable pub published_narrow : (over : ℕ → Bool) (fuel low high : ℕ) → Option ℕ
published_narrow over zero low high = published_last over low high
published_narrow over (suc n) low high =
    let mid = (low + high) / 2 in
    cond (ltb (low + 1) high) (cond (over mid) (published_narrow over n low (mid - 1)) (published_narrow over n mid high)) (published_last over low high)

unfoldable pub published_search : (over : ℕ → Bool) → Option ℕ
published_search over = published_narrow over 127 0 127

-- a choice of answers is an answer
cond-some : {a b : Option ℕ} {x y : ℕ} (t : Bool) → (t ≡ true → a ≡ some x) → (t ≡ false → b ≡ some y) → cond t a b ≡ some (cond t x y)
cond-some true f g = f refl
cond-some false f g = g refl

module _ (over : ℕ → Bool) where
  -- low moves only to mid, below high, so that it stays below 127
  last-answers : (low high : ℕ) → low ≤ 126 → published_last over low high ≡ some (last_of over low high)
  unfolding published_last last_of
  last-answers low high h = let z : low < 127 = omega arith in cond-some (eqb low high) (λ _. rw (lt-ltb low 127 z)) (λ _. refl)

  narrow-answers : (n low high : ℕ) → low ≤ 126 → high ≤ 127 → published_narrow over n low high ≡ some (narrow over n low high)
  unfolding published_narrow narrow
  narrow-answers zero low high h q = last-answers low high h
  narrow-answers (suc n) low high h q =
      cond-some (ltb (low + 1) high)
      (λ e. let z : low + 1 < high = ltb-true (low + 1) high e in
      cond-some (over ((low + high) / 2))
      (λ _. narrow-answers n low ((low + high) / 2 - 1) h (omega arith))
      (λ _. narrow-answers n ((low + high) / 2) high (omega arith) q))
      (λ _. last-answers low high h)

  -- Whatever is over: the published search never answers none.
  pub always_answers : published_search over ≡ some (search_boundary over)
  unfolding published_search search_boundary
  always_answers = narrow-answers 127 0 127 (omega arith) (omega arith)
