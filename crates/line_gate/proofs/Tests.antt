-- A part's start fits. Assumes nothing.
use Prim.Native.Nat.{ℕ, ◌*◌, ◌^◌, ◌≤◌}
use native.Mathlib.Nat.{mul-le-mul_right}
use native.Mathlib.Omega.{arith}

-- a product of two numbers that are at most 65,535
pub product_fits : (a b : ℕ) → a ≤ 65535 → b ≤ 65535 → a * b ≤ 2 ^ 32
product_fits a b h k = omega (arith, mul-le-mul_right b h)
