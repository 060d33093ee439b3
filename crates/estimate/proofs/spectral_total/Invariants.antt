-- `estimate::spectral_total` meets its contract. The invariant: the first c channels are added up. Assumes nothing.
use mathlib.Core.Path.{◌≡◌}
use Prim.Native.Nat.{ℕ, ◌≤◌, ◌*◌}
use Rattle.buffers.specs.Walk.{sum_to}
use Rattle.rules.specs.Layout.{coded_count_at, part}
use Rattle.rules.specs.Estimate.{channel_bits}
use Rattle.estimate.proofs.spectral_total.Given as goal

abbrev pub invariant-loop-c : goal.invariant-loop-c
invariant-loop-c l =
    (l.sum ≤ 12288 * l.c)
    × (l.sum ≡ sum_to (λ (i : ℕ). channel_bits l.probe.layout (part 1024 l.probe.scaled.now i) (part 128 l.probe.factors.now i) (coded_count_at l.probe.layout i) l.level 0) l.c)
