-- How far a width reaches. Assumes nothing.
use mathlib.Core.Path.{◌≡◌}
use Prim.Native.Nat.{ℕ, zero, suc, ◌+◌, ◌-◌, ◌*◌, ◌^◌, ◌%◌, ◌≤◌}
use native.Mathlib.Omega.{arith}
use Rattle.rules.specs.Width.{reach_of}

-- the code's shift
pub shifted : (d : ℕ) → 1 ≤ d → d ≤ 5 → ((1 * 2 ^ (d - 1)) % 2 ^ 64 ≡ reach_of d + 1) × (reach_of d ≤ 15)
shifted zero h l = absurd (omega arith)
shifted (suc zero) h l = omega arith
shifted (suc (suc zero)) h l = omega arith
shifted (suc (suc (suc zero))) h l = omega arith
shifted (suc (suc (suc (suc zero)))) h l = omega arith
shifted (suc (suc (suc (suc (suc zero))))) h l = omega arith
shifted (suc (suc (suc (suc (suc (suc d)))))) h l = absurd (omega arith)
