-- The exclusive or of numbers is associative, and shifts with them.
-- Assumes nothing.
use mathlib.Core.Path.{◌≡◌, refl, sym, ap₂, ◌∙◌}
use Prim.Native.Nat.{ℕ, zero, suc, ◌+◌, ◌*◌, ◌/◌, ◌%◌, ◌^◌, ◌<◌}
use native.Mathlib.Nat.{add-zero, mod-lt}
use native.Mathlib.Omega.{arith}
use lib.Arith.{bin_ind}
use lib.Bits.{bit_xor, xor_comm, xor_step, xor_block, xor_shr, differ}
use lib.Pow.{pow_pos}

-- ---- by the lowest digit

differ_assoc : (x y z : ℕ) → x < 2 → y < 2 → z < 2 → differ (differ x y) z ≡ differ x (differ y z)
differ_assoc zero y z hx hy hz = refl
differ_assoc (suc zero) zero z hx hy hz = refl
differ_assoc (suc zero) (suc zero) zero hx hy hz = refl
differ_assoc (suc zero) (suc zero) (suc zero) hx hy hz = refl
differ_assoc (suc zero) (suc zero) (suc (suc z)) hx hy hz = absurd (omega arith)
differ_assoc (suc zero) (suc (suc y)) z hx hy hz = absurd (omega arith)
differ_assoc (suc (suc x)) y z hx hy hz = absurd (omega arith)

differ_lt : (x y : ℕ) → x < 2 → y < 2 → differ x y < 2
differ_lt zero y hx hy = hy
differ_lt (suc zero) zero hx hy = hx
differ_lt (suc zero) (suc y) hx hy = omega arith
differ_lt (suc (suc x)) y hx hy = absurd (omega arith)

low_digit : (a b : ℕ) → bit_xor a b % 2 ≡ differ (a % 2) (b % 2)
low_digit a b = rw xor_step (omega (arith, differ_lt (a % 2) (b % 2) (mod-lt a (omega arith)) (mod-lt b (omega arith))))

xor_assoc : (a b c : ℕ) → bit_xor (bit_xor a b) c ≡ bit_xor a (bit_xor b c)
xor_assoc a =
    bin_ind (λ (n : ℕ). (b c : ℕ) → bit_xor (bit_xor n b) c ≡ bit_xor n (bit_xor b c)) (λ b c. refl)
    (λ n ih b c.
    xor_step (bit_xor n b) c
    ∙ ap₂ (λ x y. bit_xor x (c / 2) * 2 + differ y (c % 2)) (xor_shr n b 1) (low_digit n b)
    ∙ ap₂ (λ x y. x * 2 + y) (ih (b / 2) (c / 2))
    (differ_assoc (n % 2) (b % 2) (c % 2) (mod-lt n (omega arith)) (mod-lt b (omega arith)) (mod-lt c (omega arith)))
    ∙ sym (xor_step n (bit_xor b c) ∙ ap₂ (λ x y. bit_xor (n / 2) x * 2 + differ (n % 2) y) (xor_shr b c 1) (low_digit b c)))
    a

-- ---- what the slices need

pub xor_swap : (a b c d : ℕ) → bit_xor (bit_xor a b) (bit_xor c d) ≡ bit_xor (bit_xor a c) (bit_xor b d)
xor_swap a b c d = simp (xor_assoc, ← xor_assoc b c d, xor_comm b c)

pub xor_shl : (s t k : ℕ) → bit_xor s t * 2 ^ k ≡ bit_xor (s * 2 ^ k) (t * 2 ^ k)
xor_shl s t k =
    sym (add-zero (bit_xor s t * 2 ^ k)) ∙ sym (xor_block k s t 0 0 (pow_pos k) (pow_pos k))
    ∙ ap₂ bit_xor (add-zero (s * 2 ^ k)) (add-zero (t * 2 ^ k))
