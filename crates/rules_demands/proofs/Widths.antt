-- Document 01, **Width**: the fold of specs/Width.antt takes what the rule says, and the rule allows one width only. Assumes nothing.
use mathlib.Core.Path.{◌≡◌, refl, sym, ap, ◌∙◌}
use mathlib.Core.List.{List}
use mathlib.Core.Bool.{Bool, true, false, cond}
use mathlib.Core.Logic.{⊎_elim, ◌⊎◌, inl, inr}
use Prim.Native.Nat.{ℕ, zero, suc, ◌+◌, ◌*◌, ◌≤◌, ◌<◌}
use native.Mathlib.Nat.{eq-or-lt_of_le}
use native.Mathlib.Omega.{arith}
use borrow.Author.Tests.{ltb-true, ltb-false, ne_eqb}
use lib.Dec.{ltb}
use lib.ListN.{length}
use Rattle.rules.specs.Width.{delta_cost, cost, all_zero, cheaper, width, width_cost}

-- The rule, of a width w with its cost c, where d in 1..k costs `costs d` and 6 costs `six`: w is 6, or a d that costs strictly less; no d
-- costs less; and d is the smallest of least cost.
pub record Chosen (costs : ℕ → ℕ) (six k w c : ℕ) : Type 0 where
  pub right : ((w ≡ 6) × (c ≡ six)) ⊎ ((1 ≤ w) × (w ≤ k) × (c ≡ costs w) × (c < six))
  pub least : (d : ℕ) → 1 ≤ d → d ≤ k → c ≤ costs d
  pub smallest : (d : ℕ) → 1 ≤ d → d < w → w ≤ k → c < costs d

module _ {costs : ℕ → ℕ} {six : ℕ} where
  at_most : {k w c : ℕ} → Chosen costs six k w c → c ≤ six
  at_most h = ⊎_elim (λ x. omega (arith, x.1)) (λ x. omega (arith, x.3)) h.right

  in_range : {k w c : ℕ} → k ≤ 5 → Chosen costs six k w c → (w ≤ 6) × (1 ≤ w)
  in_range q h = ⊎_elim (λ x. (omega (arith, x.0), omega (arith, x.0))) (λ x. (omega (arith, x.1), x.0)) h.right

  -- 6 is taken unless some d costs strictly less
  pub chosen_six : {k w c : ℕ} → Chosen costs six k w c → ((d : ℕ) → 1 ≤ d → d ≤ k → six ≤ costs d) → w ≡ 6
  chosen_six {w = w} h none = ⊎_elim (λ x. x.0) (λ x. absurd (omega (arith, none w x.0 x.1, x.2, x.3))) h.right

  -- the rule allows one width and one cost
  pub chosen_once : {k w c w' c' : ℕ} → Chosen costs six k w c → Chosen costs six k w' c' → k ≤ 5 → (w ≡ w') × (c ≡ c')
  chosen_once {k} {w} {c} {w'} {c'} h g q =
      ⊎_elim
      (λ x. ⊎_elim (λ y. (omega (arith, x.0, y.0), omega (arith, x.1, y.1))) (λ y. absurd (omega (arith, h.least w' y.0 y.1, x.1, y.2, y.3)))
      g.right)
      (λ x. ⊎_elim
      (λ y. absurd (omega (arith, g.least w x.0 x.1, y.1, x.2, x.3)))
      (λ y. let e : w ≡ w' = meet (λ z. omega (arith, h.smallest w' y.0 z x.1, g.least w x.0 x.1, x.2, y.2))
      (λ z. omega (arith, g.smallest w x.0 z y.1, h.least w' y.0 y.1, x.2, y.2)) in
      (e, x.2 ∙ ap costs e ∙ sym y.2))
      g.right)
      h.right
    where
      meet : {a b : ℕ} → (b < a → ⊥) → (a < b → ⊥) → a ≡ b
      meet f g = omega arith

  -- one d more
  more : {k w : ℕ} (t : Bool) → k < 5 → (c : ℕ) → Chosen costs six k w c → ltb (costs (suc k)) c ≡ t →
      Chosen costs six (suc k) (cond t (suc k) w) (cond t (costs (suc k)) c)
  more {k} true small c h e =
      let lt : costs (suc k) < c = ltb-true _ _ e in
      record {
        right = inr (omega arith, omega arith, refl, omega (arith, at_most h));
        least = λ d p q. ⊎_elim (λ (x : d ≡ suc k). rw x (omega arith)) (λ (x : d < suc k). omega (arith, h.least d p (omega arith))) (eq-or-lt_of_le q);
        smallest = λ d p q r. omega (arith, h.least d p (omega arith));
      }
  more {k} false small c h e =
      let le : c ≤ costs (suc k) = ltb-false _ _ e in
      record {
        right = ⊎_elim (λ x. inl x) (λ x. inr (x.0, omega (arith, x.1), x.2, x.3)) h.right;
        least = λ d p q. ⊎_elim (λ (x : d ≡ suc k). rw x le) (λ (x : d < suc k). h.least d p (omega arith)) (eq-or-lt_of_le q);
        smallest = λ d p q r. ⊎_elim (λ x. absurd (omega (arith, x.0))) (λ x. h.smallest d p q x.1) h.right;
      }

-- none tried yet: 6
first-six : {costs : ℕ → ℕ} {six : ℕ} → Chosen costs six 0 6 six
first-six = record { right = inl (refl, refl); least = λ d p q. absurd (omega arith); smallest = λ d p q r. absurd (omega arith) }

-- what each width costs, as the document says it
pub cost-six : (fs : List ℕ) → cost fs 6 ≡ 3 + 6 * length fs
unfolding cost
cost-six fs = refl

pub cost_delta : (fs : List ℕ) (d : ℕ) → 1 ≤ d → d ≤ 5 → cost fs d ≡ delta_cost fs d
unfolding cost
cost_delta fs d p q = rw (ne_eqb d 0 (λ e. omega arith), ne_eqb d 6 (λ e. omega arith))

-- THE CHOICE as a loop takes it: the best of 6 and 1 to k
unfoldable pub best_to : List ℕ → ℕ → ℕ
best_to fs zero = 6
best_to fs (suc k) = cheaper fs (best_to fs k) (suc k)

module _ (fs : List ℕ) where
  pub width_best : all_zero fs ≡ false → width fs ≡ best_to fs 5
  unfolding width best_to
  width_best e = rw e

  -- with the cost beside it
  pub cost-cheaper : (w d : ℕ) → cost fs (cheaper fs w d) ≡ cond (ltb (cost fs d) (cost fs w)) (cost fs d) (cost fs w)
  unfolding cheaper
  cost-cheaper w d = by_test (ltb (cost fs d) (cost fs w))
    where
      by_test : (t : Bool) → cost fs (cond t d w) ≡ cond t (cost fs d) (cost fs w)
      by_test true = refl
      by_test false = refl

  best_chosen : (k : ℕ) → k ≤ 5 → Chosen (delta_cost fs) (3 + 6 * length fs) k (best_to fs k) (cost fs (best_to fs k))
  unfolding best_to cheaper
  best_chosen zero h = rw (cost-six fs) first-six
  best_chosen (suc k) h =
      rw (cost-cheaper (best_to fs k) (suc k), cost_delta fs (suc k) (omega arith) h)
      (more (ltb (delta_cost fs (suc k)) (cost fs (best_to fs k))) h (cost fs (best_to fs k)) (best_chosen k (omega arith)) refl)

  -- THE WIDTH THEOREM
  pub width_chosen : all_zero fs ≡ false → Chosen (delta_cost fs) (3 + 6 * length fs) 5 (width fs) (width_cost fs)
  unfolding width_cost
  width_chosen e = rw (width_best e) (best_chosen 5 (omega arith))

  pub width-silent : all_zero fs ≡ true → (width fs ≡ 0) × (width_cost fs ≡ 3)
  unfolding width width_cost cost
  width-silent e = (rw e, rw e)

  -- what follows for either kind of list
  by_silence : {P : Type 0} → (all_zero fs ≡ true → P) → (all_zero fs ≡ false → P) → P
  by_silence f g = by_test (all_zero fs) refl f g
    where
      by_test : {P : Type 0} (t : Bool) → all_zero fs ≡ t → (all_zero fs ≡ true → P) → (all_zero fs ≡ false → P) → P
      by_test true e f g = f e
      by_test false e f g = g e

  pub width-le : width fs ≤ 6
  width-le = by_silence (λ e. omega (arith, (width-silent e).0)) (λ e. (in_range (omega arith) (width_chosen e)).0)

  -- width 0 exactly where all factors are zero (the other way is width-silent)
  pub width-zero : width fs ≡ 0 → all_zero fs ≡ true
  width-zero z = by_silence (λ e. e) (λ e. absurd (omega (arith, (in_range (omega arith) (width_chosen e)).1)))
