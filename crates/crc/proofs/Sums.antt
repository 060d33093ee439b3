-- Laws of the sum of two polynomials. It is commutative and associative at any lengths, so that most laws have no side condition.
-- Assumes nothing.
use mathlib.Core.Path.{◌≡◌, refl, sym, ap, ap₂, ◌∙◌}
use mathlib.Core.Bool.{Bool, true, false, ◌&&◌}
use mathlib.Core.List.{[], ◌∷◌, ◌++◌}
use Prim.Native.Nat.{ℕ, zero, suc, ◌+◌, ◌≤◌}
use native.Mathlib.Nat.{le_of_suc-le-suc, not-suc-le-zero, zero-add, suc-add}
use native.Mathlib.Omega.{arith}
use lib.ListN.{length}
use Rattle.bits.specs.Bits.{zeros}
use Rattle.crc.specs.Poly.{Poly, plus, add, scale}

plus_comm : (a b : Bool) → plus a b ≡ plus b a
plus_comm false false = refl
plus_comm false true = refl
plus_comm true false = refl
plus_comm true true = refl

plus_assoc : (a b c : Bool) → plus (plus a b) c ≡ plus a (plus b c)
plus_assoc false b c = refl
plus_assoc true false c = refl
plus_assoc true true false = refl
plus_assoc true true true = refl

plus_self : (a : Bool) → plus a a ≡ false
plus_self false = refl
plus_self true = refl

pub add_comm : (p q : Poly) → add p q ≡ add q p
add_comm [] [] = refl
add_comm [] (b ∷ q) = refl
add_comm (a ∷ p) [] = refl
add_comm (a ∷ p) (b ∷ q) = ap₂ ◌∷◌ (plus_comm a b) (add_comm p q)

pub add-nil : (p : Poly) → add p [] ≡ p
add-nil p = add_comm p []

pub add_assoc : (p q r : Poly) → add (add p q) r ≡ add p (add q r)
add_assoc [] q r = refl
add_assoc (a ∷ p) [] r = refl
add_assoc (a ∷ p) (b ∷ q) [] = refl
add_assoc (a ∷ p) (b ∷ q) (c ∷ r) = ap₂ ◌∷◌ (plus_assoc a b c) (add_assoc p q r)

-- (p + q) + (r + s) = (p + r) + (q + s)
pub add_swap : (p q r s : Poly) → add (add p q) (add r s) ≡ add (add p r) (add q s)
add_swap p q r s = simp (add_assoc, ← add_assoc q r s, add_comm q r)

pub length-scale : (b : Bool) (p : Poly) → length (scale b p) ≡ length p
length-scale b [] = refl
length-scale b (c ∷ p) = ap suc (length-scale b p)

pub length-add : (p q : Poly) → length p ≤ length q → length (add p q) ≡ length q
length-add [] q h = refl
length-add (a ∷ p) [] h = absurd (not-suc-le-zero h)
length-add (a ∷ p) (b ∷ q) h = ap suc (length-add p q (le_of_suc-le-suc h))

pub zeros-add : (n : ℕ) (q : Poly) → n ≤ length q → add (zeros n) q ≡ q
zeros-add zero q h = refl
zeros-add (suc n) [] h = absurd (not-suc-le-zero h)
zeros-add (suc n) (b ∷ q) h = ap (λ p. b ∷ p) (zeros-add n q (le_of_suc-le-suc h))

add_self : (p : Poly) → add p p ≡ zeros (length p)
add_self [] = refl
add_self (a ∷ p) = ap₂ ◌∷◌ (plus_self a) (add_self p)

-- what is added twice is gone
pub add_twice : (p q : Poly) → length p ≤ length q → add p (add p q) ≡ q
add_twice p q h = sym (add_assoc p p q) ∙ rw add_self (zeros-add (length p) q h)

pub add-append : (p q r s : Poly) → length p ≡ length q → add (p ++ r) (q ++ s) ≡ add p q ++ add r s
add-append [] [] r s h = refl
add-append [] (b ∷ q) r s h = absurd (omega arith)
add-append (a ∷ p) [] r s h = absurd (omega arith)
add-append (a ∷ p) (b ∷ q) r s h = ap (λ t. plus a b ∷ t) (add-append p q r s (omega arith))

-- zeros past the end of p are put behind it
pub add-zeros : (p : Poly) (n : ℕ) → add p (zeros (length p + n)) ≡ p ++ zeros n
add-zeros [] n = rw zero-add
add-zeros (a ∷ p) n = rw suc-add (ap₂ ◌∷◌ (plus_comm a false) (add-zeros p n))

and-plus : (a b c : Bool) → (plus a b && c) ≡ plus (a && c) (b && c)
and-plus false b c = refl
and-plus true false c = plus_comm false c
and-plus true true c = sym (plus_self c)

pub scale-plus : (a b : Bool) (p : Poly) → scale (plus a b) p ≡ add (scale a p) (scale b p)
scale-plus a b [] = refl
scale-plus a b (c ∷ p) = ap₂ ◌∷◌ (and-plus a b c) (scale-plus a b p)

pub scale_false : (p : Poly) → scale false p ≡ zeros (length p)
scale_false [] = refl
scale_false (c ∷ p) = ap (λ q. false ∷ q) (scale_false p)
