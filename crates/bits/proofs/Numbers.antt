-- A number and its bits, there and back; bytes and their bits, there and back.
-- Assumes nothing.
use mathlib.Core.Path.{◌≡◌, refl, sym, ap, ap₂, ◌∙◌, subst}
use mathlib.Core.Bool.{Bool, true, false}
use mathlib.Core.List.{List, [], ◌∷◌, ◌++◌, append_assoc}
use Prim.Native.Nat.{ℕ, zero, suc, ◌+◌, ◌*◌, ◌/◌, ◌%◌, ◌^◌, ◌<◌}
use native.Mathlib.Nat.{mod-lt, pow-suc, mul_assoc, add-mul, add_assoc, zero-add, suc-add, add_comm, mod-eq_of_lt, mod-one}
use native.Mathlib.Numerals.{one-add}
use native.Mathlib.Omega.{arith}
use lib.Dec.{eqb}
use lib.ListN.{length, take, drop, length-append, length-drop, take-append-drop}
use lib.Seq.{take_at, drop_at, length-take-le}
use lib.Pow.{pow-add, high, low, field, mod-mod-pow, mod-pow-add, shr-shr}
use Rattle.bits.specs.Bits.{odd, digit, bits, value, bits_of, pack, Bytes, zeros}

pub length-bits : (k v : ℕ) → length (bits k v) ≡ k
unfolding bits
length-bits zero v = refl
length-bits (suc k) v = ap suc (length-bits k v)

pub value-lt : (bs : List Bool) → value bs < 2 ^ length bs
unfolding value
value-lt [] = omega arith
value-lt (false ∷ bs) = rw pow-suc (omega (arith, value-lt bs))
value-lt (true ∷ bs) = rw pow-suc (omega (arith, value-lt bs))

pub value-append : (p q : List Bool) → value (p ++ q) ≡ value p * 2 ^ length q + value q
unfolding value
value-append [] q = omega arith
value-append (b ∷ p) q = simp (length-append p q, pow-add, value-append p q, add-mul, mul_assoc, add_assoc)

pub value-zeros : (n : ℕ) → value (zeros n) ≡ 0
unfolding value
value-zeros zero = refl
value-zeros (suc n) = omega (arith, value-zeros n)

-- ---- there and back

odd-digit : (b : Bool) → odd (digit b) ≡ b
odd-digit false = refl
odd-digit true = refl

digit-odd : (n : ℕ) → digit (odd n) ≡ n % 2
digit-odd n = cases (n % 2) (mod-lt n (omega arith))
  where
    cases : (x : ℕ) → x < 2 → digit (eqb x 1) ≡ x
    cases zero h = refl
    cases (suc zero) h = refl
    cases (suc (suc x)) h = absurd (omega arith)

-- the k low bits are those of what is left at 2 ^ (i + k)
bits-mod : (i k n : ℕ) → bits k (n % 2 ^ (i + k)) ≡ bits k n
unfolding bits
bits-mod i zero n = refl
bits-mod i (suc k) n =
    let e : i + suc k ≡ i + 1 + k = omega arith in
    rw e
    (ap₂ ◌∷◌ (ap (λ x. eqb x 1) (ap (λ x. x % 2) (field n (i + 1) k) ∙ mod-mod-pow (n / 2 ^ k) i 1)) (bits-mod (i + 1) k n))

-- what stands above k bits is not seen
pub bits-low : (k v : ℕ) → bits k (v % 2 ^ k) ≡ bits k v
bits-low k v = ap (λ n. bits k (v % 2 ^ n)) (sym (zero-add k)) ∙ bits-mod 0 k v

pub bits-value : (bs : List Bool) → bits (length bs) (value bs) ≡ bs
unfolding bits value
bits-value [] = refl
bits-value (b ∷ p) =
    ap₂ ◌∷◌ (ap odd (high (digit b) (length p) (value-lt p)) ∙ odd-digit b)
    (sym (bits-low (length p) (digit b * 2 ^ length p + value p))
    ∙ ap (bits (length p)) (low (digit b) (length p) (value-lt p))
    ∙ bits-value p)

pub value_bits_lem : (k v : ℕ) → value (bits k v) ≡ v % 2 ^ k
unfolding bits value
value_bits_lem zero v = sym (mod-one v)
value_bits_lem (suc k) v = rw (length-bits k v, digit-odd (v / 2 ^ k), value_bits_lem k v) (sym (rw one-add at (mod-pow-add v 1 k)))

-- the number that a field holds is read back
pub value-back : (k v : ℕ) → v < 2 ^ k → value (bits k v) ≡ v
value-back k v h = value_bits_lem k v ∙ mod-eq_of_lt h

-- the high a bits, then the low b
pub bits-add : (a b v : ℕ) → bits (a + b) v ≡ bits a (v / 2 ^ b) ++ bits b v
unfolding bits
bits-add zero b v = rw zero-add
bits-add (suc a) b v = rw (suc-add, shr-shr, add_comm b a, bits-add a b v)

-- ---- bytes

pub bits_of-append : (s t : List ℕ) → bits_of (s ++ t) ≡ bits_of s ++ bits_of t
unfolding bits_of
bits_of-append [] t = refl
bits_of-append (b ∷ s) t = ap (λ p. bits 8 b ++ p) (bits_of-append s t) ∙ sym (append_assoc (bits 8 b) (bits_of s) (bits_of t))

pub length-bits_of : (s : List ℕ) → length (bits_of s) ≡ 8 * length s
unfolding bits_of
length-bits_of [] = refl
length-bits_of (b ∷ s) = rw length-append (omega (arith, length-bits 8 b, length-bits_of s))

pub pack-bits : (s : List ℕ) → Bytes s → pack (length s) (bits_of s) ≡ s
unfolding pack bits_of
pack-bits [] h = refl
pack-bits (b ∷ s) h =
    ap₂ (λ x xs. x ∷ xs)
    (ap value (take_at (bits 8 b) (bits_of s) 8 (length-bits 8 b)) ∙ value-back 8 b h.0)
    (ap (pack (length s)) (drop_at (bits 8 b) (bits_of s) 8 (length-bits 8 b)) ∙ pack-bits s h.1)

pub bits-pack : (n : ℕ) (t : List Bool) → length t ≡ 8 * n → bits_of (pack n t) ≡ t
unfolding pack bits_of
bits-pack zero [] e = refl
bits-pack zero (x ∷ t) e = absurd (omega arith)
bits-pack (suc n) t e =
    let l = length-take-le 8 t (omega arith) in
    ap₂ (λ x y. x ++ y) (subst (λ m. bits m (value (take 8 t)) ≡ take 8 t) l (bits-value (take 8 t))) (bits-pack n (drop 8 t) (omega (arith, length-drop 8 t)))
    ∙ take-append-drop 8 t

pub length-pack : (n : ℕ) (t : List Bool) → length (pack n t) ≡ n
unfolding pack
length-pack zero t = refl
length-pack (suc n) t = ap suc (length-pack n (drop 8 t))

-- equal bits, equal bytes
pub bytes_injective : (s t : List ℕ) → Bytes s → Bytes t → length s ≡ length t → bits_of s ≡ bits_of t → s ≡ t
bytes_injective s t h g l e = sym (pack-bits s h) ∙ ap₂ pack l e ∙ pack-bits t g

pub bytes-pack : (n : ℕ) (t : List Bool) → length t ≡ 8 * n → Bytes (pack n t)
unfolding pack
bytes-pack zero t e = tt
bytes-pack (suc n) t e =
    let l : length (take 8 t) ≡ 8 = length-take-le 8 t (omega arith) in
    (subst (λ m. value (take 8 t) < 2 ^ m) l (value-lt (take 8 t)), bytes-pack n (drop 8 t) (omega (arith, length-drop 8 t)))
