-- The long division is a division: the dividend is the quotient times the divisor and the remainder, which has degree d coefficients, and
-- there is no other such pair. And it is linear: what the table rests on.
-- Assumes nothing.
use mathlib.Core.Path.{◌≡◌, refl, sym, ap, ap₂, ◌∙◌}
use mathlib.Core.Bool.{Bool, true, false, ◌&&◌}
use mathlib.Core.List.{[], ◌∷◌, ◌++◌, append_assoc}
use Prim.Native.Nat.{ℕ, zero, suc, ◌+◌, ◌-◌, ◌≤◌}
use native.Mathlib.Nat.{zero-add, suc-add}
use native.Mathlib.Omega.{arith}
use lib.ListN.{length, length-append, length-replicate}
use Rattle.bits.specs.Bits.{zeros}
use Rattle.crc.specs.Poly.{Poly, plus, add, scale, degree, mul, step, steps, quotients, quotient, remainder}
use Rattle.crc.proofs.Sums.{add-nil, add_comm, add_assoc, add_swap, add_twice, add-append, add-zeros, zeros-add, length-scale, length-add, scale-plus}
use Rattle.crc.proofs.Sums.{scale_false}

-- The divisor is 1 and then g: a polynomial of degree length g with leading coefficient 1.
module _ (g : Poly) where
  abbrev d : Poly
  d = true ∷ g

  -- ---- lengths: what is left after n steps

  scaled_fits : (b : Bool) (p : Poly) → length g ≤ length p → length (scale b g) ≤ length p
  scaled_fits b p h = rw length-scale h

  length-steps : (n : ℕ) (p : Poly) → length p ≡ n + length g → length (steps d n p) ≡ length g
  length-steps zero p h = omega arith
  length-steps (suc n) [] h = absurd (omega arith)
  length-steps (suc n) (b ∷ p) h =
      length-steps n (add (scale b g) p) (length-add (scale b g) p (scaled_fits b p (omega arith)) ∙ omega arith)

  length-quotients : (n : ℕ) (p : Poly) → length p ≡ n + length g → length (quotients d n p) ≡ n
  length-quotients zero p h = refl
  length-quotients (suc n) [] h = absurd (omega arith)
  length-quotients (suc n) (b ∷ p) h =
      ap suc (length-quotients n (add (scale b g) p) (length-add (scale b g) p (scaled_fits b p (omega arith)) ∙ omega arith))

  -- ---- dividend = quotient * divisor + remainder

  lead_kept : (b : Bool) → b ≡ plus (plus (b && true) false) false
  lead_kept false = refl
  lead_kept true = refl

  divides : (n : ℕ) (p : Poly) → length p ≡ n + length g → p ≡ add (mul (quotients d n p) d) (zeros n ++ steps d n p)
  divides zero p h = sym (zeros-add (length g) p (omega arith))
  divides (suc n) [] h = absurd (omega arith)
  divides (suc n) (b ∷ p) h =
      let s : length (scale b g) ≤ length p = scaled_fits b p (omega arith) in
      let q : Poly = quotients d n (add (scale b g) p) in
      ap₂ ◌∷◌ (lead_kept b)
      (sym (add_twice (scale b g) p s)
      ∙ ap (add (scale b g)) (divides n (add (scale b g) p) (length-add (scale b g) p s ∙ omega arith))
      ∙ sym (add_assoc (scale b g) (mul q d) _))

  -- the quotient and the remainder are the only ones: dividing q d + r gives q and r, for every q, and r of degree d coefficients
  length-mul : (q : Poly) → length (mul q d) ≡ length q + length g
  length-mul [] = length-replicate (length g) false ∙ omega arith
  length-mul (b ∷ q) = ap suc (length-add (scale b g) (mul q d) (rw (length-scale, length-mul q) (omega arith)) ∙ length-mul q) ∙ omega arith

  length-padded : (n : ℕ) (r : Poly) → length (zeros n ++ r) ≡ n + length r
  length-padded n r = length-append (zeros n) r ∙ rw length-replicate

  step_of_product : (b : Bool) (q r : Poly) → length r ≡ length g
      → step d (add (mul (b ∷ q) d) (zeros (suc (length q)) ++ r)) ≡ add (mul q d) (zeros (length q) ++ r)
  step_of_product b q r h =
      let m : length (mul q d) ≤ length (zeros (length q) ++ r) = omega (arith, length-mul q, length-padded (length q) r) in
      ap₂ (λ c t. add (scale c g) t) (sym (lead_kept b)) (add_assoc (scale b g) (mul q d) (zeros (length q) ++ r))
      ∙ add_twice (scale b g) (add (mul q d) (zeros (length q) ++ r))
      (rw length-scale (omega (arith, length-add (mul q d) (zeros (length q) ++ r) m, length-padded (length q) r)))

  remainder_unique : (q r : Poly) → length r ≡ length g → steps d (length q) (add (mul q d) (zeros (length q) ++ r)) ≡ r
  remainder_unique [] r h = zeros-add (length g) r (omega arith)
  remainder_unique (b ∷ q) r h = ap (steps d (length q)) (step_of_product b q r h) ∙ remainder_unique q r h

  quotient_unique : (q r : Poly) → length r ≡ length g → quotients d (length q) (add (mul q d) (zeros (length q) ++ r)) ≡ q
  quotient_unique [] r h = refl
  quotient_unique (b ∷ q) r h = ap₂ ◌∷◌ (sym (lead_kept b)) (ap (quotients d (length q)) (step_of_product b q r h) ∙ quotient_unique q r h)

  -- ---- the division is linear

  step_sum : (p q : Poly) → step d (add p q) ≡ add (step d p) (step d q)
  step_sum [] q = refl
  step_sum (a ∷ p) [] = sym (add-nil (add (scale a g) p))
  step_sum (a ∷ p) (b ∷ q) = ap (λ s. add s (add p q)) (scale-plus a b g) ∙ add_swap (scale a g) (scale b g) p q

  steps-sum : (n : ℕ) (p q : Poly) → steps d n (add p q) ≡ add (steps d n p) (steps d n q)
  steps-sum zero p q = refl
  steps-sum (suc n) p q = ap (steps d n) (step_sum p q) ∙ steps-sum n (step d p) (step d q)

  steps_more : (m n : ℕ) (p : Poly) → steps d (m + n) p ≡ steps d n (steps d m p)
  steps_more zero n p = rw zero-add
  steps_more (suc m) n p = rw suc-add (steps_more m n (step d p))

  -- leading zeros are passed over
  steps-zeros : (n : ℕ) (p : Poly) → length g ≤ length p → steps d n (zeros n ++ p) ≡ p
  steps-zeros zero p h = refl
  steps-zeros (suc n) p h =
      ap (steps d n) (ap (λ s. add s (zeros n ++ p)) (scale_false g) ∙ zeros-add (length g) (zeros n ++ p) (omega (arith, length-padded n p)))
      ∙ steps-zeros n p h

  -- what the division of p x^degree leaves. Where p is followed by t, the steps over p leave that, added to the front of t
  abbrev pub rest : Poly → Poly
  rest p = steps d (length p) (p ++ zeros (length g))

  pub rest-before : (p t : Poly) → length g ≤ length t → steps d (length p) (p ++ t) ≡ add (rest p) t
  rest-before p t h =
      ap (steps d (length p))
      (sym (add-append p (zeros (length p)) (zeros (length g)) t (sym (length-replicate (length p) false))
      ∙ ap₂ ◌++◌ (add_comm p (zeros (length p)) ∙ zeros-add (length p) p (omega arith)) (zeros-add (length g) t h)))
      ∙ steps-sum (length p) (p ++ zeros (length g)) (zeros (length p) ++ t)
      ∙ ap (add (rest p)) (steps-zeros (length p) t h)

  pub length_rest : (p : Poly) → length (rest p) ≡ length g
  length_rest p = length-steps (length p) (p ++ zeros (length g)) (length-append p (zeros (length g)) ∙ rw length-replicate)

  -- q behind p: the rest of p is added to the front of q x^degree, and the division goes on over q
  pub rest-append : (p q : Poly) → rest (p ++ q) ≡ steps d (length q) (add (rest p) (q ++ zeros (length g)))
  rest-append p q =
      rw (length-append, append_assoc)
      (steps_more (length p) (length q) (p ++ (q ++ zeros (length g)))
      ∙ ap (steps d (length q)) (rest-before p (q ++ zeros (length g)) (omega (arith, length-append q (zeros (length g)), length-replicate (length g) false))))

  -- the same where the rest of p is hi and then lo, and q as long as hi: what is left of q under hi, and lo moved up
  pub rest-next : (p q hi lo : Poly) → rest p ≡ hi ++ lo → length hi ≡ length q → rest (p ++ q) ≡ add (rest (add hi q)) (lo ++ zeros (length hi))
  rest-next p q hi lo e h =
      let k : length g ≡ length lo + length hi = omega (arith, length_rest p, ap length e, length-append hi lo) in
      rest-append p q
      ∙ ap (steps d (length q))
      (ap (λ s. add s (q ++ zeros (length g))) e
      ∙ add-append hi q lo (zeros (length g)) h
      ∙ ap (λ n. add hi q ++ add lo (zeros n)) k
      ∙ ap (λ t. add hi q ++ t) (add-zeros lo (length hi)))
      ∙ ap (λ n. steps d n (add hi q ++ (lo ++ zeros (length hi)))) (sym (length-add hi q (omega arith)))
      ∙ rest-before (add hi q) (lo ++ zeros (length hi)) (rw (length-append, length-replicate) (omega arith))

  pub rest_sum : (p q : Poly) → length p ≡ length q → rest (add p q) ≡ add (rest p) (rest q)
  rest_sum p q h =
      let z : Poly = zeros (length g) in
      ap₂ (steps d) (length-add p q (omega arith))
      (sym (add-append p q z z h ∙ ap (λ y. add p q ++ y) (zeros-add (length g) z (omega (arith, length-replicate (length g) false)))))
      ∙ steps-sum (length q) (p ++ z) (q ++ z)
      ∙ ap (λ n. add (steps d n (p ++ z)) (rest q)) (sym h)

  -- ---- the division as the specification states it

  pub remainder-rest : (p : Poly) → remainder d (p ++ zeros (length g)) ≡ rest p
  remainder-rest p =
      let e : length (p ++ zeros (length g)) - length g ≡ length p = rw (length-append, length-replicate) (omega arith) in
      ap (λ n. steps d n (p ++ zeros (length g))) e

  -- the dividend is the quotient times the divisor, and the remainder
  pub division : (p : Poly) → length g ≤ length p → p ≡ add (mul (quotient d p) d) (zeros (length (quotient d p)) ++ remainder d p)
  division p h =
      let e : length p ≡ length p - length g + length g = omega arith in
      divides (length p - length g) p e
      ∙ ap (λ n. add (mul (quotient d p) d) (zeros n ++ remainder d p)) (sym (length-quotients (length p - length g) p e))

  pub length-remainder : (p : Poly) → length g ≤ length p → length (remainder d p) ≡ degree d
  length-remainder p h = length-steps (length p - length g) p (omega arith)

  -- any q and r of degree d coefficients with p = q d + r are these two
  pub division_only : (p q r : Poly) → length r ≡ degree d → p ≡ add (mul q d) (zeros (length q) ++ r)
      → (quotient d p ≡ q) × (remainder d p ≡ r)
  division_only p q r h e =
      let n : length p - length g ≡ length q =
      rw e (omega (
        arith,
        length-add (mul q d) (zeros (length q) ++ r) (omega (arith, length-mul q, length-padded (length q) r)),
        length-padded (length q)
            r,
      )) in
      (ap₂ (quotients d) n e ∙ quotient_unique q r h, ap₂ (steps d) n e ∙ remainder_unique q r h)
