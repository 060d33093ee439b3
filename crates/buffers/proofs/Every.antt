-- A test of every index, from its parts and to them. Assumes nothing.
use mathlib.Core.Path.{◌≡◌, refl, ◌∙◌, sym}
use mathlib.Core.Bool.{Bool, true, false}
use mathlib.Core.Logic.{⊎_elim}
use Prim.Native.Nat.{ℕ, zero, suc, ◌+◌, ◌<◌}
use native.Mathlib.Nat.{not-suc-le-zero, le_of_suc-le-suc, eq-or-lt_of_le}
use native.Mathlib.Numerals.{add-one}
use native.Mathlib.Omega.{arith}
use Rattle.buffers.specs.Walk.{every}
use Rattle.buffers.proofs.Tests.{and_fst, and_snd, and-true, not_true_false}

pub every-none : (p : ℕ → Bool) → every p 0 ≡ true
unfolding every
every-none p = refl

pub every_more : (p : ℕ → Bool) (n : ℕ) → every p n ≡ true → p n ≡ true → every p (n + 1) ≡ true
unfolding every
every_more p n h e = rw (add-one n, h, e)

pub every-at : (p : ℕ → Bool) (n i : ℕ) → every p n ≡ true → i < n → p i ≡ true
unfolding every
every-at p zero i e h = absurd (not-suc-le-zero h)
every-at p (suc n) i e h =
    ⊎_elim (λ (q : i ≡ n). rw q (and_snd (every p n) (p n) e)) (λ (q : i < n). every-at p n i (and_fst (every p n) (p n) e) q)
    (eq-or-lt_of_le (le_of_suc-le-suc h))

pub every-all : (p : ℕ → Bool) (n : ℕ) → ((i : ℕ) → i < n → p i ≡ true) → every p n ≡ true
unfolding every
every-all p zero h = refl
every-all p (suc n) h = and-true (every-all p n (λ i q. h i (omega arith))) (h n (omega arith))

-- a loop leaves at the first index that fails
pub every_fails : (p : ℕ → Bool) (n i : ℕ) → i < n → p i ≡ false → every p n ≡ false
every_fails p n i h e = not_true_false (every p n) (λ t. false_true (sym e ∙ every-at p n i t h))
  where
    false_true : false ≡ true → ⊥
    false_true q = let z : ◌≡◌ {A = ℕ} 0 1 = cc in omega arith
