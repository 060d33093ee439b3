-- `estimate::fixed_part::calculate_frame_header_length` meets its contract. The invariant: the first c channels are added up. Assumes nothing.
use mathlib.Core.Path.{◌≡◌}
use Prim.Native.Nat.{ℕ, ◌≤◌, ◌*◌}
use Rattle.buffers.specs.Walk.{sum_to}
use Rattle.rules.specs.Layout.{part}
use Rattle.rules.specs.Estimate.{header_bits}
use Rattle.estimate.proofs.fixed_part.calculate_frame_header_length.Given as goal

abbrev pub invariant-loop-c : goal.invariant-loop-c
invariant-loop-c l = (l.sum ≤ 819 * l.c) × (l.sum ≡ sum_to (λ (i : ℕ). header_bits l.layout (part 128 l.factors i) i) l.c)
