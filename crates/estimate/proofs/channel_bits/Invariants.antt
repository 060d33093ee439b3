-- `estimate::channel_bits` meets its contract. The invariant: it is met up to b. Assumes nothing.
use mathlib.Core.Path.{◌≡◌}
use Prim.Native.Nat.{◌≤◌, ◌+◌, ◌*◌}
use Rattle.rules.specs.Estimate.{channel_bits}
use Rattle.estimate.proofs.channel_bits.Given as goal

abbrev pub invariant-loop-b : goal.invariant-loop-b
invariant-loop-b l =
    (l.sum + 96 * l.from ≤ 96 * l.b) × (channel_bits l.layout l.scaled l.factors l.from l.noise 0 + l.sum ≡ channel_bits l.layout l.scaled l.factors l.b l.noise 0)
