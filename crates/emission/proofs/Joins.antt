-- Fields joined in one number, by shifts; the bits that wait brought to the top of a number of 64.
-- Assumes nothing.
use mathlib.Core.Path.{◌≡◌, refl, sym, ap, ◌∙◌}
use mathlib.Core.List.{◌++◌}
use Prim.Native.Nat.{ℕ, zero, suc, ◌+◌, ◌-◌, ◌*◌, ◌/◌, ◌%◌, ◌^◌, ◌≤◌, ◌<◌}
use native.Mathlib.Nat.{mul_assoc, mul-mod_left, add-mul, one-mul, add-zero, zero-div, mul-le-mul_right}
use native.Mathlib.Omega.{arith}
use lib.Bits.{bit_or, or_shifted}
use lib.Pow.{pow-add, shl_exact, shl-shr, high, low, mod-pow-add, mod-mod-pow}
use Rattle.bits.specs.Bits.{bits, zeros}
use Rattle.bits.proofs.Numbers.{bits-low, bits-add}

-- two fields as one
pub bits_join : (a b v u : ℕ) → u < 2 ^ b → bits (a + b) (v * 2 ^ b + u) ≡ bits a v ++ bits b u
bits_join a b v u h =
    let below : bits b (v * 2 ^ b + u) ≡ bits b u = sym (bits-low b (v * 2 ^ b + u)) ∙ rw (low v b h) in
    rw (bits-add a b (v * 2 ^ b + u), high v b h, below)

pub join_lt : (a b : ℕ) {v u : ℕ} → v < 2 ^ a → u < 2 ^ b → v * 2 ^ b + u < 2 ^ (a + b)
join_lt a b {v} {u} hv hu =
    let h : (v + 1) * 2 ^ b ≤ 2 ^ a * 2 ^ b = mul-le-mul_right (2 ^ b) (omega arith) in
    let e : (v + 1) * 2 ^ b ≡ v * 2 ^ b + 2 ^ b = add-mul v 1 (2 ^ b) ∙ rw one-mul in
    rw (pow-add 2 a b) (omega arith)

-- ---- with the machine's shift

-- a number shifted out of a word
shl-mod : (n j k : ℕ) → n * 2 ^ k % 2 ^ (j + k) ≡ n % 2 ^ j * 2 ^ k
shl-mod n j k = mod-pow-add (n * 2 ^ k) j k ∙ rw (shl-shr n k, mul-mod_left n (2 ^ k)) (add-zero _)

-- what is above the bits is not seen
bits-under : (n j v : ℕ) → n ≤ j → bits n (v % 2 ^ j) ≡ bits n v
bits-under n j v h =
    let e : (j - n) + n ≡ j = omega arith in
    sym (bits-low n (v % 2 ^ j)) ∙ ap (bits n) (rw e at (mod-mod-pow v (j - n) n)) ∙ bits-low n v

-- within the word
pub or_join : (w a b v u : ℕ) → v < 2 ^ a → u < 2 ^ b → a + b ≤ w → bit_or (v * 2 ^ b % 2 ^ w) u ≡ v * 2 ^ b + u
or_join w a b v u hv hu h = rw (shl_exact a b w hv h) (or_shifted v b u hu)

-- out of a word of 64, of which n bits count
pub or_more : (n m acc v : ℕ) → n + m ≤ 64 → v < 2 ^ m → bits (n + m) (bit_or (acc * 2 ^ m % 2 ^ 64) v) ≡ bits n acc ++ bits m v
or_more n m acc v h hv =
    let e : (64 - m) + m ≡ 64 = omega arith in
    let s : acc * 2 ^ m % 2 ^ 64 ≡ acc % 2 ^ (64 - m) * 2 ^ m = rw e at (shl-mod acc (64 - m) m) in
    rw (s, or_shifted (acc % 2 ^ (64 - m)) m v hv, bits_join n m (acc % 2 ^ (64 - m)) v hv, bits-under n (64 - m) acc (omega arith))

bits_none : (k : ℕ) → bits k 0 ≡ zeros k
unfolding bits
bits_none zero = refl
bits_none (suc k) = rw (zero-div (2 ^ k), bits_none k)

bits-shifted : (k v : ℕ) → bits k (v * 2 ^ k) ≡ zeros k
bits-shifted k v = sym (bits-low k (v * 2 ^ k)) ∙ rw (mul-mod_left v (2 ^ k)) (bits_none k)

-- the n bits on top, zeros below them
pub top-bits : (acc n : ℕ) → n ≤ 63 → bits 64 (acc * 2 ^ 1 % 2 ^ 64 * 2 ^ (63 - n) % 2 ^ 64) ≡ bits n acc ++ zeros (64 - n)
top-bits acc n h =
    let k : ℕ = 63 - n in
    let e : (n + 1) + k ≡ 64 = omega arith in
    let f : k + n ≡ 63 = omega arith in
    let r : 1 + k ≡ 64 - n = omega arith in
    let one : acc * 2 ^ 1 % 2 ^ 64 ≡ acc % 2 ^ 63 * 2 ^ 1 = shl-mod acc 63 1 in
    let two : acc % 2 ^ 63 * 2 ^ 1 * 2 ^ k % 2 ^ 64 ≡ acc % 2 ^ 63 * 2 ^ 1 % 2 ^ (n + 1) * 2 ^ k = rw e at (shl-mod (acc % 2 ^ 63 * 2 ^ 1) (n + 1) k) in
    let low-n : acc % 2 ^ 63 % 2 ^ n ≡ acc % 2 ^ n = rw f at (mod-mod-pow acc k n) in
    let all : acc * 2 ^ 1 % 2 ^ 64 * 2 ^ k % 2 ^ 64 ≡ acc % 2 ^ n * 2 ^ (64 - n) =
    rw (one, two, shl-mod (acc % 2 ^ 63) n 1, low-n, mul_assoc (acc % 2 ^ n) (2 ^ 1) (2 ^ k), ← pow-add 2 1 k, r) in
    let g : n + (64 - n) ≡ 64 = omega arith in
    let parts : bits 64 (acc % 2 ^ n * 2 ^ (64 - n)) ≡ bits n (acc % 2 ^ n * 2 ^ (64 - n) / 2 ^ (64 - n)) ++ bits (64 - n) (acc % 2 ^ n * 2 ^ (64 - n)) =
    rw g at (bits-add n (64 - n) (acc % 2 ^ n * 2 ^ (64 - n))) in
    rw all (parts ∙ rw (shl-shr (acc % 2 ^ n) (64 - n), bits-shifted (64 - n) (acc % 2 ^ n), bits-low n acc))
