-- Tests: a conjunction taken apart and made, a choice by a test, a bound on a table by one computed test. Assumes nothing.
use mathlib.Core.Path.{◌≡◌, refl}
use mathlib.Core.List.{List, [], ◌∷◌}
use mathlib.Core.Bool.{Bool, true, false, cond, ◌&&◌}
use Prim.Native.Nat.{ℕ, zero, suc, ◌≤◌, zero-le}
use borrow.Author.Tests.{leb-true}
use lib.Dec.{leb}
use lib.ListN.{get_or}

pub and_fst : (a b : Bool) → (a && b) ≡ true → a ≡ true
and_fst true b e = refl
and_fst false b e = e

pub and_snd : (a b : Bool) → (a && b) ≡ true → b ≡ true
and_snd true b e = e
and_snd false b e = cc

pub and-true : {a b : Bool} → a ≡ true → b ≡ true → (a && b) ≡ true
and-true p q = rw (p, q)

pub not_true_false : (b : Bool) → (b ≡ true → ⊥) → b ≡ false
not_true_false true h = absurd (h refl)
not_true_false false h = refl

-- two choices by one test, alike where each arm is
pub cond_same : {A : Type 0} {a a' b b' : A} (t : Bool) → (t ≡ true → a ≡ a') → (t ≡ false → b ≡ b') → cond t a b ≡ cond t a' b'
cond_same true f g = f refl
cond_same false f g = g refl

-- what both arms have, the choice has; and a bound on it
pub cond_both : {A : Type 0} (P : A → Type 0) {a b : A} (t : Bool) → (t ≡ true → P a) → (t ≡ false → P b) → P (cond t a b)
cond_both P true f g = f refl
cond_both P false f g = g refl

pub cond_bound : {a b n : ℕ} (t : Bool) → (t ≡ true → a ≤ n) → (t ≡ false → b ≤ n) → cond t a b ≤ n
cond_bound {a} {b} {n} t f g = cond_both (λ (x : ℕ). x ≤ n) t f g

-- whether every entry of a table is at most m
unfoldable pub all_le : ℕ → List ℕ → Bool
all_le m [] = true
all_le m (x ∷ xs) = leb x m && all_le m xs

pub get_d_le : (m : ℕ) (xs : List ℕ) → all_le m xs ≡ true → (i : ℕ) → get_or xs i 0 ≤ m
unfolding all_le
get_d_le m [] e i = zero-le
get_d_le m (x ∷ xs) e zero = leb-true x m (and_fst (leb x m) (all_le m xs) e)
get_d_le m (x ∷ xs) e (suc i) = get_d_le m xs (and_snd (leb x m) (all_le m xs) e) i
