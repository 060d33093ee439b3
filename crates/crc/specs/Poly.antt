-- Polynomials over the field of two elements, and long division of one by another.
-- A polynomial is the list of its coefficients, the highest first, `true` for 1: x^3 + x is 1, 0, 1, 0. A list of n coefficients is a
-- polynomial of degree below n; zeros may lead. The polynomial p times x^n is p ++ zeros n.
-- Definitions only.
use Rattle.std.specs.Prelude.{Bool, true, false, ◌&&◌, ℕ, zero, suc, ◌-◌, length}
use mathlib.Core.List.{List, [], ◌∷◌, tail}
use Rattle.bits.specs.Bits.{zeros}

abbrev pub Poly : Type 0
Poly = List Bool

-- the field's sum, in which 1 + 1 = 0; so it is the difference too. The field's product is `&&`
abbrev pub plus : (a b : Bool) → Bool
plus false b = b
plus true false = true
plus true true = false

-- the sum of two polynomials of one length, coefficient by coefficient. A shorter one is lined up with the highest coefficients of the
-- longer, as the divisor is in a long division
abbrev pub add : (p q : Poly) → Poly
add [] q = q
add (a ∷ p) [] = a ∷ p
add (a ∷ p) (b ∷ q) = plus a b ∷ add p q

-- a coefficient times a polynomial
abbrev pub scale : (b : Bool) (p : Poly) → Poly
scale b [] = []
scale b (c ∷ p) = (b && c) ∷ scale b p

-- the degree of a polynomial whose leading coefficient is not 0
abbrev pub degree : (d : Poly) → ℕ
degree [] = 0
degree (a ∷ d) = length d

-- the product q d: each coefficient of q times d, shifted to its place, and summed. It has degree d coefficients more than q
abbrev pub mul : (q d : Poly) → Poly
mul [] d = zeros (degree d)
mul (b ∷ q) d = add (scale b d) (false ∷ mul q d)

-- One step of the long division by d, whose leading coefficient is 1. The leading coefficient of what is left, b, is the quotient's next
-- one: b times d is taken away from the front, and the leading coefficient, which is 0 now, is dropped.
abbrev pub step : (d p : Poly) → Poly
step d [] = []
step d (b ∷ p) = tail (add (scale b d) (b ∷ p))

-- n steps
abbrev pub steps : (d : Poly) (n : ℕ) (p : Poly) → Poly
steps d zero p = p
steps d (suc n) p = steps d n (step d p)

-- the coefficients of the quotient that n steps find
abbrev pub quotients : (d : Poly) (n : ℕ) (p : Poly) → Poly
quotients d zero p = []
quotients d (suc n) [] = []
quotients d (suc n) (b ∷ p) = b ∷ quotients d n (step d (b ∷ p))

-- the division goes on until there are degree d coefficients left: these are the remainder
abbrev pub remainder : (d p : Poly) → Poly
remainder d p = steps d (length p - degree d) p

abbrev pub quotient : (d p : Poly) → Poly
quotient d p = quotients d (length p - degree d) p
