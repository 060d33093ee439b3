-- The eight bytes, stored one after the other.
-- Assumes nothing.
use mathlib.Core.Path.{◌≡◌, refl, sym, ap, ◌∙◌}
use mathlib.Core.List.{List, ◌++◌}
use mathlib.Core.Logic.{◌⊎◌, inl, inr}
use native.Mathlib.Nat.{eq-or-lt_of_le, div-one}
use Prim.Native.Nat.{ℕ, zero, suc, ◌+◌, ◌-◌, ◌*◌, ◌/◌, ◌%◌, ◌^◌, ◌≤◌, ◌<◌}
use native.Mathlib.Omega.{arith}
use lib.ListN.{length, get_or, take, drop, set, length-set, length-append, length-drop, get_or-append}
use lib.Seq.{length-take-le, get_or-take, get_or-append-add, get_or-set_same, get_or-set_other}
use Rattle.std.specs.Int.{to_be_bytes, w64}
use Rattle.emission.specs.Run.{Stored}

-- byte j of a number of 64 bits, the highest first
pub be_byte : (w j : ℕ) → j < 8 → get_or (to_be_bytes w64 w) j 0 ≡ w / 2 ^ (56 - 8 * j) % 2 ^ 8
be_byte w zero h = refl
be_byte w (suc zero) h = refl
be_byte w (suc (suc zero)) h = refl
be_byte w (suc (suc (suc zero))) h = refl
be_byte w (suc (suc (suc (suc zero)))) h = refl
be_byte w (suc (suc (suc (suc (suc zero))))) h = refl
be_byte w (suc (suc (suc (suc (suc (suc zero)))))) h = refl
be_byte w (suc (suc (suc (suc (suc (suc (suc zero))))))) h = rw div-one refl
be_byte w (suc (suc (suc (suc (suc (suc (suc (suc j)))))))) h = absurd (omega arith)

-- n bytes put over those from byte `at` on
pub stored_part : {s : List ℕ} {at w : ℕ} (n : ℕ) (bs : List ℕ) → at + n ≤ length s → length bs ≡ n
    → ((j : ℕ) → j < 8 → at + j < length s → (j < n) × (get_or bs j 0 ≡ w / 2 ^ (56 - 8 * j) % 2 ^ 8))
    → Stored 8 s at w (take at s ++ (bs ++ drop n (drop at s)))
stored_part {s} {at} {w} n bs h long part =
    let l : length (take at s) ≡ at = length-take-le at s (omega arith) in
    let r : List ℕ = drop n (drop at s) in
    record {
      same = simp (length-append, length-drop) (omega (arith, l, long));
      before = λ k g. get_or-append (take at s) (bs ++ r) 0 k (rw l g) ∙ get_or-take at s k 0 g;
      bytes = λ j g i.
          ap (λ (m : ℕ). get_or (take at s ++ (bs ++ r)) (m + j) 0) (sym l)
          ∙ get_or-append-add (take at s) (bs ++ r) j 0
          ∙ get_or-append bs r 0 j (rw long (part j g i).0)
          ∙ (part j g i).1;
    }

-- ---- clearing

-- bytes a to i of s are cleared, those before a are as they were
pub record Cleared (s : List ℕ) (a i : ℕ) (s' : List ℕ) : Type 0 where
  pub same : length s' ≡ length s
  pub before : (k : ℕ) → k < a → get_or s' k 0 ≡ get_or s k 0
  pub clear : (k : ℕ) → a ≤ k → k < i → get_or s' k 0 ≡ 0

pub cleared-none : (s : List ℕ) (a : ℕ) → Cleared s a a s
cleared-none s a = record { same = refl; before = λ k h. refl; clear = λ k h g. absurd (omega arith) }

pub cleared_more : {s : List ℕ} {a i : ℕ} {s' : List ℕ} → a ≤ i → i < length s → Cleared s a i s' → Cleared s a (i + 1) (set s' i 0)
cleared_more {s} {a} {i} {s'} h l d = record {
  same = length-set s' i 0 ∙ d.same;
  before = λ k g. get_or-set_other s' i k 0 0 (omega arith) ∙ d.before k g;
  clear = λ k g q. byte k g (eq-or-lt_of_le (omega arith));
}
  where
    byte : (k : ℕ) → a ≤ k → (k ≡ i) ⊎ (k < i) → get_or (set s' i 0) k 0 ≡ 0
    byte k g (inl e) = rw e (get_or-set_same s' i 0 0 (omega (arith, d.same)))
    byte k g (inr q) = get_or-set_other s' i k 0 0 (omega arith) ∙ d.clear k g q
