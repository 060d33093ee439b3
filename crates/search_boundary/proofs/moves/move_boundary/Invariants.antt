-- `search_boundary::moves::move_boundary` meets its contract. The invariant: the first c channels have moved. Assumes nothing.
use mathlib.Core.Path.{◌≡◌}
use Prim.Native.Nat.{ℕ, ◌≤◌, ◌+◌, ◌*◌}
use Rattle.buffers.specs.Walk.{sum_to}
use Rattle.rules.specs.Layout.{coded_count_at, part}
use Rattle.rules.specs.Estimate.{channel_bits}
use Rattle.search_boundary.proofs.moves.move_boundary.Given as goal

abbrev pub invariant-loop-c : goal.invariant-loop-c
invariant-loop-c l =
    let bits : ℕ → ℕ → ℕ = λ boundary i. channel_bits l.probe.layout (part 1024 l.probe.scaled.now i) (part 128 l.probe.factors.now i) (coded_count_at l.probe.layout i) l.level boundary in
    (l.rise ≤ l.used + 12288 * l.c) × (l.fall ≤ 12288 * l.c) × (sum_to (bits l.to) l.c + (l.fall + l.used) ≡ sum_to (bits l.from) l.c + l.rise)
