-- `estimate::calculate_used_bits` meets its contract. Assumes nothing.
use mathlib.Core.Path.{ap₂}
use Prim.Native.Nat.{ℕ, ◌+◌}
use Rattle.rules.specs.Estimate.{used_bits}
use Rattle.estimate.proofs.calculate_used_bits.Goals as goal

pub returns : goal.returns
unfolding used_bits
returns c = ap₂ (λ (a b : ℕ). a + b) c.requires.fixed_value.0 c.spectral_total.ensures.0
