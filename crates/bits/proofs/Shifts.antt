-- The machine's shifts and masks, as plain arithmetic.
-- Assumes nothing.
use mathlib.Core.Path.{◌≡◌, ◌∙◌}
use Prim.Native.Nat.{ℕ, ◌+◌, ◌*◌, ◌%◌, ◌^◌, ◌<◌}
use native.Mathlib.Nat.{one-mul, mod-eq_of_lt}
use native.Mathlib.Omega.{arith}
use lib.Pow.{shl_exact}
use lib.Bits.{bit_or, or_shifted}

pub one_shl : (n : ℕ) → n < 32 → 1 * 2 ^ n % 2 ^ 32 ≡ 2 ^ n
one_shl n h = shl_exact {a = 1} 1 n 32 (omega arith) (omega arith) ∙ one-mul (2 ^ n)

pub bytes-or : (a b c : ℕ) → a < 256 → b < 256 → c < 256 → bit_or (a * 2 ^ 16 % 2 ^ 32) (bit_or (b * 2 ^ 8 % 2 ^ 32) c) ≡ a * 2 ^ 16 + (b * 2 ^ 8 + c)
bytes-or a b c ha hb hc =
    let x : a * 2 ^ 16 % 2 ^ 32 ≡ a * 2 ^ 16 = mod-eq_of_lt (omega arith) in
    let y : b * 2 ^ 8 % 2 ^ 32 ≡ b * 2 ^ 8 = mod-eq_of_lt (omega arith) in
    let z : b * 2 ^ 8 + c < 2 ^ 16 = omega arith in
    rw (x, y, or_shifted b 8 c hc, or_shifted a 16 (b * 2 ^ 8 + c) z)
