-- `search_boundary::moves::channel_change` meets its contract. The invariant: it is met at the boundary b. Assumes nothing.
use mathlib.Core.Path.{◌≡◌}
use Prim.Native.Nat.{◌≤◌, ◌+◌, ◌*◌}
use Rattle.rules.specs.Estimate.{channel_bits}
use Rattle.search_boundary.proofs.moves.channel_change.Given as goal

abbrev pub invariant-loop-b : goal.invariant-loop-b
invariant-loop-b l =
    (channel_bits l.layout l.scaled l.factors l.coded l.level l.b + l.fall ≡ channel_bits l.layout l.scaled l.factors l.coded l.level l.from + l.rise)
    × (l.b ≤ l.to) × (l.rise ≤ 96 * l.b) × (l.fall ≤ 96 * l.b)
