-- The checksum is the remainder of a division: what a reader of the specification is to believe of it, proved.
-- Assumes nothing.
use mathlib.Core.Path.{◌≡◌, refl, sym, ap, ap₂, ◌∙◌}
use mathlib.Core.List.{List, [], ◌∷◌, ◌++◌, tail}
use Prim.Native.Nat.{ℕ, ◌*◌, ◌/◌, ◌%◌, ◌^◌, ◌≤◌, ◌<◌}
use native.Mathlib.Omega.{arith}
use lib.Bits.{bit_xor, xor_self, xor_zero_r}
use lib.ListN.{length, length-append}
use Rattle.bits.specs.Bits.{bits, value, bits_of, zeros}
use Rattle.bits.proofs.Numbers.{value-lt, bits-value}
use Rattle.crc.specs.Poly.{Poly, add, mul, quotient, remainder}
use Rattle.crc.specs.Check.{divisor, checksum}
use Rattle.crc.specs.Table.{fed}
use Rattle.crc.specs.Sealed.{check, sealed}
use Rattle.crc.proofs.Division.{division, length-remainder, division_only}
use Rattle.crc.proofs.Laws.{checksum-feed}

-- the divisor is 0x8005 under x^16; and a check value that many have published: that of the nine digits
pub divisor-value : value divisor ≡ 0x18005
unfolding value
divisor-value = refl

pub digits_value : checksum (0x31 ∷ 0x32 ∷ 0x33 ∷ 0x34 ∷ 0x35 ∷ 0x36 ∷ 0x37 ∷ 0x38 ∷ 0x39 ∷ []) ≡ 0xFEE8
unfolding checksum value bits_of bits
digits_value = refl

zero-value : checksum (0 ∷ []) ≡ 0
unfolding checksum value bits_of bits
zero-value = refl

dividend_long : (m : List ℕ) → 16 ≤ length (bits_of m ++ zeros 16)
dividend_long m = rw length-append (omega arith)

remainder_sixteen : (m : List ℕ) → length (remainder divisor (bits_of m ++ zeros 16)) ≡ 16
remainder_sixteen m = length-remainder (tail divisor) (bits_of m ++ zeros 16) (dividend_long m)

pub checksum-lt : (m : List ℕ) → checksum m < 2 ^ 16
unfolding checksum
checksum-lt m = rw (remainder_sixteen m) at (value-lt (remainder divisor (bits_of m ++ zeros 16)))

-- message x^16 = quotient divisor + remainder, and the remainder's sixteen coefficients are the checksum's digits
pub checksum_divides : (m : List ℕ)
    → (q : Poly) × (bits_of m ++ zeros 16 ≡ add (mul q divisor) (zeros (length q) ++ bits 16 (checksum m)))
unfolding checksum
checksum_divides m =
    let p : Poly = bits_of m ++ zeros 16 in
    let q : Poly = quotient divisor p in
    let b : bits 16 (checksum m) ≡ remainder divisor p = rw (remainder_sixteen m) at (bits-value (remainder divisor p)) in
    (q, division (tail divisor) p (dividend_long m) ∙ ap (λ r. add (mul q divisor) (zeros (length q) ++ r)) (sym b))

-- and no other sixteen coefficients are a remainder of it
pub checksum_only : (m : List ℕ) (q r : Poly) → length r ≡ 16
    → bits_of m ++ zeros 16 ≡ add (mul q divisor) (zeros (length q) ++ r) → value r ≡ checksum m
unfolding checksum
checksum_only m q r l e = ap value (sym (division_only (tail divisor) (bits_of m ++ zeros 16) q r l e).1)

-- the checksum stored behind the message, high byte first, makes the whole divisible: its checksum is 0
pub checksum_closes : (m : List ℕ) → checksum (sealed m) ≡ 0
checksum_closes m = checksum-feed m (check m) ∙ closed (checksum m) (checksum-lt m)
  where
    closed : (s : ℕ) → s < 2 ^ 16 → fed (fed s (s / 256)) (s % 256) ≡ 0
    closed s h =
        let high : s * 2 ^ 8 % 2 ^ 16 / 2 ^ 8 ≡ s % 2 ^ 8 = omega arith in
        let none : s * 2 ^ 8 % 2 ^ 16 * 2 ^ 8 % 2 ^ 16 ≡ 0 = omega arith in
        let first : fed s (s / 256) ≡ s * 2 ^ 8 % 2 ^ 16 =
        ap (λ x. bit_xor (s * 2 ^ 8 % 2 ^ 16) (checksum (x ∷ []))) (xor_self (s / 2 ^ 8))
        ∙ ap (bit_xor (s * 2 ^ 8 % 2 ^ 16)) zero-value
        ∙ xor_zero_r (s * 2 ^ 8 % 2 ^ 16) in
        ap (λ x. fed x (s % 256)) first
        ∙ ap₂ (λ x y. bit_xor x (checksum (bit_xor y (s % 256) ∷ []))) none high
        ∙ ap (λ x. checksum (x ∷ [])) (xor_self (s % 256))
        ∙ zero-value
