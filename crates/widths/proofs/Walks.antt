-- What the walk over the factors keeps, and what is chosen at its end. Assumes nothing.
use mathlib.Core.Path.{◌≡◌, refl, sym, subst, ◌∙◌}
use mathlib.Core.List.{List}
use mathlib.Core.Bool.{true, false, ◌&&◌, and-true, and_assoc}
use Prim.Native.Nat.{ℕ, zero, suc, ◌+◌, ◌*◌, ◌≤◌, ◌<◌}
use native.Mathlib.Omega.{arith}
use borrow.Author.Tests.{ltb-true, ltb-false}
use lib.Dec.{ltb}
use native.Mathlib.Numerals.{add-one}
use lib.ListN.{length, take, get_or, replicate}
use Rattle.std.proofs.lemmas.List.{get_or-replicate}
use Rattle.buffers.proofs.Build.{build-at}
use lib.Seq.{slice}
use Rattle.buffers.proofs.Tests.{cond_both, cond_bound}
use Rattle.rules.specs.Width.{near, delta_cost, all_zero, width, width_cost}
use Rattle.widths.specs.declared.Width.{Width}
use Rattle.widths.specs.declared.Walk.{Walk}
use Rattle.widths.specs.Walks.{Short, later_bits, first_walk, walk_on, or_less, chosen_of}
use Rattle.widths.proofs.Costs.{cost_past, cost-start, cost-next, cost_end, zero-next, zero_end, Best, best_none, best_less, best_same, best_all}
use Rattle.widths.proofs.Costs.{best_zero}

-- the length m of width d after the factor at j: with what the factors past j cost it is the whole cost
abbrev pub Length : (fs : List ℕ) (n j d m : ℕ) → Type 0
Length fs n j d m = (m ≤ 9 + 11 * j) × (delta_cost (take n fs) d ≡ m + cost_past d fs n j)

pub record Walked (fs : List ℕ) (n j : ℕ) (w : Walk) : Type 0 where
  pub lengths : (i : ℕ) → i < 5 → Length fs n j (i + 1) (get_or w.lengths i 0)
  pub previous : w.previous ≡ get_or fs j 0
  pub zero : all_zero (take n fs) ≡ (w.is_zero && all_zero (slice (j + 1) n fs))

-- one factor more makes no length too long
pub walked-short : (fs : List ℕ) (n j : ℕ) (w : Walk) → j ≤ 126 → Walked fs n j w → Short w.lengths
walked-short fs n j w h k = λ i l. omega (arith, (k.lengths i l).0)

-- a later band takes at most d + 6
later-le : (d p f : ℕ) → later_bits d p f ≤ d + 6
later-le d p f = cond_bound (near d p f) (λ t. omega arith) (λ t. omega arith)

-- one width more
best_or_less : (fs : List ℕ) (k m : ℕ) (w : Width) → k < 5 → Best fs k w.bits w.cost → m ≡ delta_cost fs (k + 1)
    → Best fs (k + 1) (or_less (k + 1) m w).bits (or_less (k + 1) m w).cost
unfolding or_less
best_or_less fs k m w h b e = cond_both (λ (v : Width). Best fs (k + 1) v.bits v.cost) (ltb m w.cost)
    (λ t. best_less fs k _ _ m h b e (ltb-true _ _ t))
    (λ t. best_same fs k _ _ m h b e (ltb-false _ _ t))

best_chosen : (fs : List ℕ) (n : ℕ) (ls : List ℕ) → n ≤ length fs → ((i : ℕ) → i < 5 → get_or ls i 0 ≡ delta_cost (take n fs) (i + 1))
    → (k : ℕ) → k ≤ 5 → Best (take n fs) k (chosen_of ls n k).bits (chosen_of ls n k).cost
unfolding chosen_of
best_chosen fs n ls fits e zero h = best_none fs n fits
best_chosen fs n ls fits e (suc k) h =
    let next = or_less (k + 1) (get_or ls k 0) (chosen_of ls n k) in
    subst (λ (d : ℕ). Best (take n fs) d next.bits next.cost) (add-one k)
    (best_or_less (take n fs) k _ _ (omega arith) (best_chosen fs n ls fits e k (omega arith)) (e k (omega arith)))

module _ (fs : List ℕ) (n : ℕ) (fits : n ≤ length fs) where
  pub walked-first : 0 < n → Walked fs n 0 (first_walk (get_or fs 0 0))
  walked-first h = record { lengths = first; previous = refl; zero = zero-next fs n 0 fits h }
    where
      first : (i : ℕ) → i < 5 → Length fs n 0 (i + 1) (get_or (replicate 5 9) i 0)
      first i h = rw (get_or-replicate {A = ℕ} 5 i 9 0 h) (omega arith, cost-start (i + 1) fs n)

  -- one factor more, at any width
  length-next : (j d m p : ℕ) → d ≤ 5 → j + 1 < n → p ≡ get_or fs j 0 → Length fs n j d m → Length fs n (j + 1) d (m + later_bits d p (get_or fs (j + 1) 0))
  length-next j d m p small h e k =
      rw e (omega (arith, k.0, later-le d (get_or fs j 0) (get_or fs (j + 1) 0)), omega (arith, k.1, cost-next d fs n j fits h))

  pub walked_next : (j : ℕ) (w : Walk) → j + 1 < n → Walked fs n j w → Walked fs n (j + 1) (walk_on w (get_or fs (j + 1) 0))
  walked_next j w h k =
      record {
        lengths = next;
        previous = refl;
        zero = k.zero ∙ rw (zero-next fs n (j + 1) fits h) (sym (and_assoc w.is_zero _ _));
      }
    where
      next : (i : ℕ) → i < 5 → Length fs n (j + 1) (i + 1) (get_or (walk_on w (get_or fs (j + 1) 0)).lengths i 0)
      next i l = rw (build-at {A = ℕ} _ 5 i 0 l) (length-next j (i + 1) _ w.previous (omega arith) h k.previous (k.lengths i l))

  -- at the end each length is its width's cost
  walked_end : (j : ℕ) (w : Walk) → n ≤ j + 1 → Walked fs n j w
      → ((i : ℕ) → i < 5 → get_or w.lengths i 0 ≡ delta_cost (take n fs) (i + 1)) × (all_zero (take n fs) ≡ w.is_zero)
  walked_end j w h k = (
    λ i l. omega (arith, (k.lengths i l).1, cost_end (i + 1) fs n j fits h),
    k.zero ∙ rw (zero_end fs n (j + 1) fits h) (and-true w.is_zero),
  )

  pub walked-silent : (j : ℕ) (w : Walk) → n ≤ j + 1 → Walked fs n j w → w.is_zero ≡ true → (0 ≡ width (take n fs)) × (3 ≡ width_cost (take n fs))
  walked-silent j w h k e = best_zero _ ((walked_end j w h k).1 ∙ e)

  pub walked_chosen : (j : ℕ) (w : Walk) → n ≤ j + 1 → Walked fs n j w → w.is_zero ≡ false → (v : Width) → v ≡ chosen_of w.lengths n 5
      → (v.bits ≡ width (take n fs)) × (v.cost ≡ width_cost (take n fs))
  walked_chosen j w h k e v is =
      let end = walked_end j w h k in
      rw is (best_all (take n fs) _ _ (end.1 ∙ e) (best_chosen fs n w.lengths fits end.0 5 (omega arith)))
