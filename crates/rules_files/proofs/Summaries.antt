-- The highest and the total of numbers by their index: one more, the same below an end, bounds. Assumes nothing.
use mathlib.Core.Path.{◌≡◌, refl, sym, ap, ap₂, ◌∙◌}
use mathlib.Core.Logic.{◌⊎◌, inl, inr, ⊎_elim}
use mathlib.Core.List.{List}
use Prim.Native.Nat.{ℕ, zero, suc, ◌+◌, ◌*◌, ◌≤◌, ◌<◌, max, zero-le}
use native.Mathlib.Nat.{eq-or-lt_of_le, le_of_suc-le-suc, not-suc-le-zero, max-eq_left, max-eq_right}
use native.Mathlib.Numerals.{add-one}
use native.Mathlib.Omega.{arith}
use lib.ListN.{take}
use Rattle.buffers.proofs.Scan.{sum_same}
use Rattle.rules.proofs.Cuts.{by_order}
use Rattle.rules_files.specs.List.{entry_at, max_to, summary_of}
use Rattle.rules_files.specs.declared.list.Entry.{Entry}
use Rattle.rules_files.proofs.Entries.{entry-front}

-- ---- a loop's steps

pub max_none : (f : ℕ → ℕ) → max_to f 0 ≡ 0
unfolding max_to
max_none f = refl

pub max_more : (f : ℕ → ℕ) (n : ℕ) → max_to f (n + 1) ≡ max (max_to f n) (f n)
unfolding max_to
max_more f n = rw add-one

-- ---- the same below the end

module _ (f g : ℕ → ℕ) where
  max-same : (n : ℕ) → ((i : ℕ) → i < n → f i ≡ g i) → max_to f n ≡ max_to g n
  unfolding max_to
  max-same zero h = refl
  max-same (suc n) h = ap₂ max (max-same n (λ i l. h i (omega arith))) (h n (omega arith))

-- two lists of numbers whose first n entries are the same
pub summary_same : (n : ℕ) (xs ys : List ℕ) → ((i : ℕ) → i < n → entry_at xs i ≡ entry_at ys i) → summary_of n xs ≡ summary_of n ys
unfolding summary_of
summary_same n xs ys h = λ j. record {
  level = max-same (λ i. (entry_at xs i).level) (λ i. (entry_at ys i).level) n (λ i l. ap (λ (e : Entry). e.level) (h i l)) j;
  pairs = max-same (λ i. (entry_at xs i).pairs) (λ i. (entry_at ys i).pairs) n (λ i l. ap (λ (e : Entry). e.pairs) (h i l)) j;
  bits = sum_same (λ i. (entry_at xs i).bits) (λ i. (entry_at ys i).bits) n (λ i l. ap (λ (e : Entry). e.bits) (h i l)) j;
}

pub summary_front : (n : ℕ) (entries : List ℕ) → summary_of n (take (n * 4) entries) ≡ summary_of n entries
summary_front n entries = summary_same n (take (n * 4) entries) entries (entry-front n entries)

-- ---- bounds

module _ (f : ℕ → ℕ) where
  pub max_bound : (n m : ℕ) → ((i : ℕ) → i < n → f i ≤ m) → max_to f n ≤ m
  unfolding max_to
  max_bound zero m h = zero-le
  max_bound (suc n) m h = omega (arith, max_bound n m (λ i l. h i (omega arith)), h n (omega arith))

  pub max-above : (n i : ℕ) → i < n → f i ≤ max_to f n
  unfolding max_to
  max-above zero i h = absurd (not-suc-le-zero h)
  max-above (suc n) i h =
      ⊎_elim (λ (e : i ≡ n). rw e (omega arith)) (λ (l : i < n). omega (arith, max-above n i l)) (eq-or-lt_of_le (le_of_suc-le-suc h))

  -- the highest is one of them, or 0
  pub max-some : (n : ℕ) → (max_to f n ≡ 0) ⊎ ((i : ℕ) × (i < n) × (f i ≡ max_to f n))
  unfolding max_to
  max-some zero = inl refl
  max-some (suc n) =
      by_order (max_to f n) (f n)
      (λ h. inr (n, omega arith, sym (max-eq_right (omega arith))))
      (λ h. let e : max (max_to f n) (f n) ≡ max_to f n = max-eq_left h in
      ⊎_elim (λ q. inl (e ∙ q)) (λ x. let (i, l, q) = x in inr (i, omega arith, q ∙ sym e)) (max-some n))
