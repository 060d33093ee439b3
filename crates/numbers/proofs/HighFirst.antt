-- A number and its bytes, the high byte first, there and back. Assumes nothing.
use mathlib.Core.Path.{◌≡◌, refl, sym, ap, ap₂, ◌∙◌}
use mathlib.Core.List.{List, [], ◌∷◌, ◌++◌}
use Prim.Native.Nat.{ℕ, zero, suc, ◌+◌, ◌*◌, ◌/◌, ◌%◌, ◌^◌, ◌≤◌, ◌<◌}
use native.Mathlib.Nat.{mod-lt, mod-one, mod-eq_of_lt, one-le-pow, zero-lt-suc, pow-suc, pow-le-pow_right, mul_assoc, mul_comm}
use native.Mathlib.Nat.{lt_of_lt_of_le, mul-add-div_right, mul-add-mod_self_right, div-div-eq-div-mul}
use native.Mathlib.Omega.{arith}
use lib.Arith.{digits_lt, digits_div, mod-mul}
use lib.ListN.{length, length-append}
use Rattle.bits.specs.Bits.{Bytes}
use Rattle.numbers.specs.Numbers.{high_first, of_high}

pub pow-above : (k : ℕ) → 0 < 256 ^ k
pow-above k = one-le-pow k 256 (zero-lt-suc 255)

pub high-length : (width number : ℕ) → length (high_first width number) ≡ width
unfolding high_first
high-length zero n = refl
high-length (suc k) n = ap suc (high-length k n)

pub high-bytes : (width number : ℕ) → Bytes (high_first width number)
unfolding high_first
high-bytes zero n = tt
high-bytes (suc k) n = (mod-lt (n / 256 ^ k) (zero-lt-suc 255), high-bytes k n)

-- ---- from a number to its bytes and back

high-mod : (width number : ℕ) → of_high (high_first width number) ≡ number % 256 ^ width
unfolding high_first of_high
high-mod zero n = sym (mod-one n)
high-mod (suc k) n =
    rw (high-length k n, high-mod k n, pow-suc 256 k, mul_comm (256 ^ k) 256) (sym (mod-mul n (zero-lt-suc 255) (pow-above k)))

pub high-back : (width number : ℕ) → number < 256 ^ width → of_high (high_first width number) ≡ number
high-back k n h = high-mod k n ∙ mod-eq_of_lt h

-- ---- from bytes to their number and back

pub high-below : (s : List ℕ) → Bytes s → of_high s < 256 ^ length s
unfolding of_high
high-below [] h = omega arith
high-below (b ∷ s) h = rw (pow-suc 256 (length s), mul_comm (256 ^ length s) 256) (digits_lt h.0 (high-below s h.1))

-- what stands above the bytes is not seen
high-above : (k a r : ℕ) → high_first k (a * 256 ^ k + r) ≡ high_first k r
unfolding high_first
high-above zero a r = refl
high-above (suc k) a r =
    let e : a * 256 ^ suc k + r ≡ a * 256 * 256 ^ k + r =
    rw (pow-suc 256 k, mul_comm (256 ^ k) 256) (ap (λ (x : ℕ). x + r) (sym (mul_assoc a 256 (256 ^ k)))) in
    let h : (a * 256 * 256 ^ k + r) / 256 ^ k % 256 ≡ r / 256 ^ k % 256 =
    rw (mul-add-div_right (pow-above k) (a * 256) r) (mul-add-mod_self_right a 256 (r / 256 ^ k)) in
    rw e (ap₂ ◌∷◌ h (high-above k (a * 256) r))

pub high_restored : (s : List ℕ) → Bytes s → high_first (length s) (of_high s) ≡ s
unfolding high_first of_high
high_restored [] h = refl
high_restored (b ∷ s) h =
    ap₂ ◌∷◌ (ap (λ (x : ℕ). x % 256) (digits_div b (high-below s h.1)) ∙ mod-eq_of_lt h.0)
    (high-above (length s) b (of_high s) ∙ high_restored s h.1)

-- ---- one byte more

-- behind the others
pub high_snoc : (s : List ℕ) (b : ℕ) → of_high (s ++ (b ∷ [])) ≡ of_high s * 256 + b
unfolding of_high
high_snoc [] b = omega arith
high_snoc (a ∷ s) b =
    let e : a * (256 ^ length s * 256) ≡ a * 256 ^ length s * 256 = sym (mul_assoc a (256 ^ length s) 256) in
    let l : length (s ++ (b ∷ [])) ≡ suc (length s) = length-append s (b ∷ []) ∙ omega arith in
    rw (l, pow-suc 256 (length s), high_snoc s b, e) (omega arith)

pub high_empty : of_high [] ≡ 0
unfolding of_high
high_empty = refl

-- in front of them, as a loop from the low byte up meets them
pub high-none : (n : ℕ) → high_first 0 n ≡ []
unfolding high_first
high-none n = refl

pub high-cons : (k n : ℕ) → high_first (suc k) n ≡ n / 256 ^ k % 256 ∷ high_first k n
unfolding high_first
high-cons k n = refl

pub high-rest : (k n : ℕ) → n / 256 ^ k / 256 ≡ n / 256 ^ suc k
high-rest k n = rw (div-div-eq-div-mul n (256 ^ k) 256, ← pow-suc 256 k)

-- a number of fewer than `width` bytes has room for one byte more
pub high-room : (i width n b : ℕ) → n < 256 ^ i → i < width → width ≤ 8 → b < 256 → n * 256 + b < 2 ^ 64
high-room i w n b h l m g =
    let q : suc i ≤ 8 = omega arith in
    let p : 256 ^ i * 256 ≤ 256 ^ 8 = rw (← pow-suc 256 i) (pow-le-pow_right (zero-lt-suc 255) q) in
    lt_of_lt_of_le (digits_lt h g) p
