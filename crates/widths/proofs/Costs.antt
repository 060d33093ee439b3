-- The costs of document 01's **Width**, as the code walks them. Assumes nothing.
use mathlib.Core.Path.{◌≡◌, refl, sym, ap, ◌∙◌}
use mathlib.Core.List.{List, [], ◌∷◌}
use mathlib.Core.Bool.{true, false, cond, ◌&&◌}
use Prim.Native.Nat.{ℕ, zero, suc, ◌+◌, ◌*◌, ◌≤◌, ◌<◌}
use native.Mathlib.Numerals.{add-one}
use native.Mathlib.Omega.{arith}
use borrow.Author.Tests.{lt-ltb, le-ltb, ne_eqb}
use lib.Dec.{ltb, eqb}
use lib.ListN.{length, take, get_or, drop_of_length-le}
use lib.Seq.{slice, slice-cons, length-take-le}
use Rattle.rules.specs.Width.{near, later_cost, delta_cost, cost, all_zero, cheaper, width, width_cost}

-- what the first n factors cost past j
abbrev pub cost_past : ℕ → List ℕ → ℕ → ℕ → ℕ
cost_past d fs n j = later_cost d (get_or fs j 0) (slice (j + 1) n fs)

pub cost-start : (d : ℕ) (fs : List ℕ) (n : ℕ) → delta_cost (take n fs) d ≡ 9 + cost_past d fs n 0
unfolding delta_cost later_cost
cost-start d fs zero = refl
cost-start d [] (suc n) = refl
cost-start d (f ∷ fs) (suc n) = refl

-- the first n factors, from i on: all zero, and what they cost
module _ (fs : List ℕ) (n i : ℕ) where
  pub zero-next : n ≤ length fs → i < n → all_zero (slice i n fs) ≡ (eqb (get_or fs i 0) 0 && all_zero (slice (i + 1) n fs))
  unfolding all_zero
  zero-next fits h = rw (slice-cons i n fs 0 h fits, add-one)

  slice-none : n ≤ length fs → n ≤ i → slice i n fs ≡ []
  slice-none fits h = let q : length (take n fs) ≤ i = rw (length-take-le n fs fits) h in drop_of_length-le (take n fs) q

  pub zero_end : n ≤ length fs → n ≤ i → all_zero (slice i n fs) ≡ true
  unfolding all_zero
  zero_end fits h = rw (slice-none fits h)

pub cost-next : (d : ℕ) (fs : List ℕ) (n j : ℕ) → n ≤ length fs → j + 1 < n
    → cost_past d fs n j ≡ cond (near d (get_or fs j 0) (get_or fs (j + 1) 0)) d (d + 6) + cost_past d fs n (j + 1)
unfolding later_cost
cost-next d fs n j fits h = rw (slice-cons (j + 1) n fs 0 h fits, add-one (j + 1))

pub cost_end : (d : ℕ) (fs : List ℕ) (n j : ℕ) → n ≤ length fs → n ≤ j + 1 → cost_past d fs n j ≡ 0
unfolding later_cost
cost_end d fs n j fits h = rw (slice-none fs n (j + 1) fits h)

-- the best of 6 and of 1 to k, with what it costs
unfoldable pub best_of : List ℕ → ℕ → ℕ
best_of fs zero = 6
best_of fs (suc k) = cheaper fs (best_of fs k) (suc k)

abbrev pub Best : List ℕ → ℕ → ℕ → ℕ → Type 0
Best fs k b c = (b ≡ best_of fs k) × (c ≡ cost fs b)

pub best_none : (fs : List ℕ) (n : ℕ) → n ≤ length fs → Best (take n fs) 0 6 (3 + 6 * n)
unfolding best_of cost
best_none fs n h = (refl, rw (length-take-le n fs h))

module _ (fs : List ℕ) (k b c m : ℕ) (h : k < 5) (w : Best fs k b c) (e : m ≡ delta_cost fs (k + 1)) where
  one_more : m ≡ cost fs (k + 1)
  unfolding cost
  one_more = rw (ne_eqb (k + 1) 0 (λ q. omega arith), ne_eqb (k + 1) 6 (λ q. omega arith)) e

  best_so_far_next : best_of fs (k + 1) ≡ cond (ltb m c) (k + 1) b
  unfolding best_of cheaper
  best_so_far_next = rw (one_more, w.1, add-one k, ← w.0)

  pub best_less : m < c → Best fs (k + 1) (k + 1) m
  best_less l = (rw (best_so_far_next, lt-ltb m c l), one_more)

  pub best_same : c ≤ m → Best fs (k + 1) b c
  best_same l = (rw (best_so_far_next, le-ltb m c l), w.1)

pub best_all : (fs : List ℕ) (b c : ℕ) → all_zero fs ≡ false → Best fs 5 b c → (b ≡ width fs) × (c ≡ width_cost fs)
unfolding best_of width width_cost
best_all fs b c e w = let is : width fs ≡ b = rw e (sym w.0) in (sym is, w.1 ∙ ap (cost fs) (sym is))

pub best_zero : (fs : List ℕ) → all_zero fs ≡ true → (0 ≡ width fs) × (3 ≡ width_cost fs)
unfolding width width_cost cost
best_zero fs e = (rw e, rw e)
