-- Differences of whole numbers: what both have more is nothing, and one less. Assumes nothing.
use mathlib.Core.Path.{◌≡◌, refl, sym, ap, ◌∙◌}
use mathlib.Core.Bool.{Bool, true, false, cond}
use Prim.Native.Nat.{ℕ, zero, suc, ◌+◌, ◌-◌, ◌≤◌, ◌<◌}
use native.Mathlib.Omega.{arith}
use borrow.Author.Tests.{lt-ltb, le-ltb, ltb-true, ltb-false}
use lib.Dec.{ltb}
use lib.IntN.{ℤ, pos, negsuc, ◌-ℤ◌}

minus : (a b : ℕ) → pos a -ℤ pos b ≡ cond (ltb a b) (negsuc (b - suc a)) (pos (a - b))
minus a zero = let h : ltb a 0 ≡ false = le-ltb a 0 (omega arith) in rw h (ap pos (omega arith))
minus a (suc b) = refl

under : (a b : ℕ) → a < b → pos a -ℤ pos b ≡ negsuc (b - suc a)
under a b h = minus a b ∙ rw (lt-ltb a b h)

over : (a b : ℕ) → b ≤ a → pos a -ℤ pos b ≡ pos (a - b)
over a b h = minus a b ∙ rw (le-ltb a b h)

-- both have c more
pub both_more : (c t k : ℕ) → pos (c + t) -ℤ pos (c + k) ≡ pos t -ℤ pos k
both_more c t k = go (ltb t k) refl
  where
    go : (b : Bool) → ltb t k ≡ b → pos (c + t) -ℤ pos (c + k) ≡ pos t -ℤ pos k
    go true e = let h = ltb-true t k e in under (c + t) (c + k) (omega arith) ∙ ap negsuc (omega arith) ∙ sym (under t k h)
    go false e = let h = ltb-false t k e in over (c + t) (c + k) (omega arith) ∙ ap pos (omega arith) ∙ sym (over t k h)

pub one_less : (t k : ℕ) → (pos (suc t) -ℤ pos k) -ℤ pos 1 ≡ pos t -ℤ pos k
one_less t k = go (ltb (suc t) k) refl
  where
    go : (b : Bool) → ltb (suc t) k ≡ b → (pos (suc t) -ℤ pos k) -ℤ pos 1 ≡ pos t -ℤ pos k
    go true e =
        let h = ltb-true (suc t) k e in
        ap (λ (z : ℤ). z -ℤ pos 1) (under (suc t) k h) ∙ ap negsuc (omega arith) ∙ sym (under t k (omega arith))
    go false e = ap (λ (z : ℤ). z -ℤ pos 1) (over (suc t) k h) ∙ last (ltb t k) refl
      where
        h : k ≤ suc t
        h = ltb-false (suc t) k e

        last : (b : Bool) → ltb t k ≡ b → pos (suc t - k) -ℤ pos 1 ≡ pos t -ℤ pos k
        last true f = let l = ltb-true t k f in under (suc t - k) 1 (omega (arith, h)) ∙ ap negsuc (omega (arith, h)) ∙ sym (under t k l)
        last false f = let l = ltb-false t k f in over (suc t - k) 1 (omega (arith, h)) ∙ ap pos (omega (arith, h)) ∙ sym (over t k l)
