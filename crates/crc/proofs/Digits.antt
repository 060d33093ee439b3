-- A polynomial and the number with the same bits: the sum of the one is the exclusive or of the other.
-- Assumes nothing.
use mathlib.Core.Path.{◌≡◌, refl, sym, ap, ap₂, ◌∙◌}
use mathlib.Core.Bool.{Bool, true, false}
use mathlib.Core.List.{[], ◌∷◌}
use Prim.Native.Nat.{ℕ, zero, suc, ◌+◌, ◌*◌, ◌/◌, ◌%◌, ◌^◌, ◌<◌}
use native.Mathlib.Nat.{mod-lt}
use native.Mathlib.Omega.{arith}
use lib.Bits.{bit_xor, xor_block, xor_shr, xor_mod}
use lib.Dec.{eqb}
use lib.ListN.{length}
use Rattle.bits.specs.Bits.{odd, digit, bits, value}
use Rattle.bits.proofs.Numbers.{value-lt}
use Rattle.crc.specs.Poly.{Poly, plus, add}
use Rattle.crc.proofs.Sums.{length-add}

odd_xor : (a b : ℕ) → odd (bit_xor a b) ≡ plus (odd a) (odd b)
odd_xor a b = rw (xor_mod a b 1) (cases (a % 2) (b % 2) (mod-lt a (omega arith)) (mod-lt b (omega arith)))
  where
    cases : (x y : ℕ) → x < 2 → y < 2 → eqb (bit_xor x y) 1 ≡ plus (eqb x 1) (eqb y 1)
    cases zero y hx hy = refl
    cases (suc zero) zero hx hy = refl
    cases (suc zero) (suc zero) hx hy = refl
    cases (suc zero) (suc (suc y)) hx hy = absurd (omega arith)
    cases (suc (suc x)) y hx hy = absurd (omega arith)

pub bits_xor : (k a b : ℕ) → bits k (bit_xor a b) ≡ add (bits k a) (bits k b)
unfolding bits
bits_xor zero a b = refl
bits_xor (suc k) a b = ap₂ ◌∷◌ (ap odd (xor_shr a b k) ∙ odd_xor (a / 2 ^ k) (b / 2 ^ k)) (bits_xor k a b)

digit-plus : (a b : Bool) → digit (plus a b) ≡ bit_xor (digit a) (digit b)
digit-plus false b = refl
digit-plus true false = refl
digit-plus true true = refl

pub value-sum : (p q : Poly) → length p ≡ length q → value (add p q) ≡ bit_xor (value p) (value q)
unfolding value
value-sum [] q h = refl
value-sum (a ∷ p) [] h = absurd (omega arith)
value-sum (a ∷ p) (b ∷ q) h =
    let l : length p ≡ length q = omega arith in
    ap₂ (λ x y. x + y) (ap₂ (λ x n. x * 2 ^ n) (digit-plus a b) (length-add p q (omega arith) ∙ sym l)) (value-sum p q l)
    ∙ sym (xor_block (length p) (digit a) (digit b) (value p) (value q) (value-lt p) (rw l (value-lt q)))
    ∙ ap (λ n. bit_xor (digit a * 2 ^ length p + value p) (digit b * 2 ^ n + value q)) l
