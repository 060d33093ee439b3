-- Laws of the checksum: what one byte more makes of it, and that it is linear.
-- Assumes nothing.
use mathlib.Core.Path.{◌≡◌, refl, sym, ap, ap₂, ◌∙◌}
use mathlib.Core.Bool.{false}
use mathlib.Core.List.{List, [], ◌∷◌, ◌++◌, append-nil, append_assoc, tail}
use Prim.Native.Nat.{ℕ, ◌+◌, ◌*◌, ◌/◌, ◌%◌, ◌^◌, ◌<◌}
use native.Mathlib.Nat.{add-zero}
use native.Mathlib.Numerals.{add-one}
use native.Mathlib.Omega.{arith}
use lib.Bits.{bit_xor, xor_comm}
use lib.ListN.{length, length-append, get_or, take, drop, length-replicate, take-append-drop, length-take, length-drop}
use lib.Seq.{take-suc}
use Rattle.bits.specs.Bits.{bits, value, bits_of, zeros}
use Rattle.bits.proofs.Numbers.{length-bits, value-lt, value-append, value-zeros, bits-value, bits_of-append}
use Rattle.crc.specs.Poly.{Poly, add}
use Rattle.crc.specs.Check.{divisor, checksum}
use Rattle.crc.specs.Table.{fed, feed}
use Rattle.crc.proofs.Division.{rest, rest-next, rest_sum, length_rest, remainder-rest}
use Rattle.crc.proofs.Digits.{bits_xor, value-sum}

-- the divisor's coefficients after the first
abbrev g : Poly
g = tail divisor

checksum-rest : (m : List ℕ) → checksum m ≡ value (rest g (bits_of m))
unfolding checksum
checksum-rest m = ap value (remainder-rest g (bits_of m))

byte_bits_lem : (n : ℕ) → bits_of (n ∷ []) ≡ bits 8 n
unfolding bits_of
byte_bits_lem n = append-nil (bits 8 n)

byte_rest : (n : ℕ) → checksum (n ∷ []) ≡ value (rest g (bits 8 n))
byte_rest n = checksum-rest (n ∷ []) ∙ ap (λ p. value (rest g p)) (byte_bits_lem n)

-- one byte more, where the bits of the checksum are two bytes, hi and lo
fed_by_halves : (m : List ℕ) (b : ℕ) (hi lo : Poly) → rest g (bits_of m) ≡ hi ++ lo → length hi ≡ 8 → length lo ≡ 8
    → checksum (m ++ (b ∷ [])) ≡ fed (checksum m) b
fed_by_halves m b hi lo e h8 l8 =
    let bound : value lo < 2 ^ 8 = rw l8 at (value-lt lo) in
    let whole : checksum m ≡ value hi * 2 ^ 8 + value lo = checksum-rest m ∙ ap value e ∙ value-append hi lo ∙ ap (λ n. value hi * 2 ^ n + value lo) l8 in
    let top : checksum m / 2 ^ 8 ≡ value hi = omega arith in
    let moved : checksum m * 2 ^ 8 % 2 ^ 16 ≡ value lo * 2 ^ 8 = omega arith in
    let back : bits 8 (value hi) ≡ hi = rw h8 at (bits-value hi) in
    let tail-value : value (lo ++ zeros (length hi)) ≡ value lo * 2 ^ 8 =
    value-append lo (zeros (length hi)) ∙ ap₂ (λ n v. value lo * 2 ^ n + v) (length-replicate (length hi) false ∙ h8) (value-zeros (length hi))
    ∙ add-zero (value lo * 2 ^ 8) in
    checksum-rest (m ++ (b ∷ []))
    ∙ ap (λ p. value (rest g p)) (bits_of-append m (b ∷ []) ∙ ap (λ p. bits_of m ++ p) (byte_bits_lem b))
    ∙ ap value (rest-next g (bits_of m) (bits 8 b) hi lo e (h8 ∙ sym (length-bits 8 b)))
    ∙ value-sum (rest g (add hi (bits 8 b))) (lo ++ zeros (length hi))
    (length_rest g (add hi (bits 8 b)) ∙ sym (length-append lo (zeros (length hi)) ∙ omega (arith, length-replicate (length hi) false)))
    ∙ xor_comm (value (rest g (add hi (bits 8 b)))) (value (lo ++ zeros (length hi)))
    ∙ ap₂ bit_xor (tail-value ∙ sym moved)
    (ap (λ p. value (rest g (add p (bits 8 b)))) (sym back)
    ∙ ap (λ p. value (rest g p)) (sym (bits_xor 8 (value hi) b))
    ∙ sym (byte_rest (bit_xor (value hi) b))
    ∙ ap (λ x. checksum (bit_xor x b ∷ [])) (sym top))

checksum-next : (m : List ℕ) (b : ℕ) → checksum (m ++ (b ∷ [])) ≡ fed (checksum m) b
checksum-next m b =
    let s : Poly = rest g (bits_of m) in
    let l : length s ≡ 16 = length_rest g (bits_of m) in
    fed_by_halves m b (take 8 s) (drop 8 s) (sym (take-append-drop 8 s)) (rw (length-take, l)) (rw (length-drop, l))

pub byte_xor : (x y : ℕ) → checksum (bit_xor x y ∷ []) ≡ bit_xor (checksum (x ∷ [])) (checksum (y ∷ []))
byte_xor x y =
    byte_rest (bit_xor x y)
    ∙ ap (λ p. value (rest g p)) (bits_xor 8 x y)
    ∙ ap value (rest_sum g (bits 8 x) (bits 8 y) (length-bits 8 x ∙ sym (length-bits 8 y)))
    ∙ value-sum (rest g (bits 8 x)) (rest g (bits 8 y)) (length_rest g (bits 8 x) ∙ sym (length_rest g (bits 8 y)))
    ∙ sym (ap₂ bit_xor (byte_rest x) (byte_rest y))

-- the bytes behind a message go in one after the other
pub checksum-feed : (m bs : List ℕ) → checksum (m ++ bs) ≡ feed (checksum m) bs
checksum-feed m [] = ap checksum (append-nil m)
checksum-feed m (b ∷ bs) =
    ap checksum (sym (append_assoc m (b ∷ []) bs)) ∙ checksum-feed (m ++ (b ∷ [])) bs ∙ ap (λ s. feed s bs) (checksum-next m b)

pub feed-append : (s : ℕ) (cs bs : List ℕ) → feed s (cs ++ bs) ≡ feed (feed s cs) bs
feed-append s [] bs = refl
feed-append s (c ∷ cs) bs = feed-append (fed s c) cs bs

-- a loop over a list passes one byte
pub feed-next : (s : ℕ) (l : List ℕ) (i : ℕ) → i < length l → fed (feed s (take i l)) (get_or l i 0) ≡ feed s (take (i + 1) l)
feed-next s l i h = rw (add-one, take-suc l i 0) (sym (feed-append s (take i l) (get_or l i 0 ∷ [])))

-- a message is fed to 0, the checksum of none
pub checksum-all : (m : List ℕ) → checksum m ≡ feed 0 m
unfolding checksum value bits_of
checksum-all m = checksum-feed [] m
