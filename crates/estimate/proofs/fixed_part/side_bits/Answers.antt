-- `estimate::fixed_part::side_bits` meets its contract. Assumes nothing.
use mathlib.Core.Path.{ap₂}
use Prim.Native.Nat.{ℕ, ◌*◌, ◌≤◌}
use native.Mathlib.Nat.{mul-le-mul}
use native.Mathlib.Omega.{arith}
use Rattle.estimate.proofs.fixed_part.side_bits.Goals as goal

pub overflow_mul-result : goal.overflow_mul-result
overflow_mul-result c =
    let n : c.side_count.result * c.side_width-width.result ≤ 8 * 6 = mul-le-mul c.side_count.ensures.1 c.side_width-width.ensures.1 in
    record { fits = omega arith }

pub returns : goal.returns
returns c = (
  ap₂ (λ (a b : ℕ). a * b) c.side_count.ensures.0 c.side_width-width.ensures.0,
  mul-le-mul c.side_count.ensures.1 c.side_width-width.ensures.1,
)
