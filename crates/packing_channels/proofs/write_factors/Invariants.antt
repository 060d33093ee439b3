-- `packing_channels::write_factors` meets its contract. The invariant: the first i are written. Assumes nothing.
use Prim.Native.Nat.{◌-◌}
use lib.ListN.{get_or}
use Rattle.rules.specs.Fields.{factor_bits}
use Rattle.widths.specs.Previous.{factor_before}
use Rattle.emission.proofs.Loops.{Sent}
use Rattle.packing_channels.proofs.write_factors.Given as goal

abbrev pub invariant-loop-i : goal.invariant-loop-i
invariant-loop-i l =
    Sent (λ k. factor_bits l.width (factor_before k (get_or l.factors (k - 1) 0)) (get_or l.factors k 0)) 11 l.initial.at l.initial.payload l.i l.at l.payload
