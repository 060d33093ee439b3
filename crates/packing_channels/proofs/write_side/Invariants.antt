-- `packing_channels::write_side` meets its contract. The invariant: the first i are written. Assumes nothing.
use lib.ListN.{get_or}
use Rattle.bits.specs.Bits.{bits}
use Rattle.emission.proofs.Loops.{Sent}
use Rattle.packing_channels.proofs.write_side.Given as goal

abbrev pub invariant-loop-value : goal.invariant-loop-value
invariant-loop-value l = Sent (λ k. bits l.width (get_or l.side k 0)) 6 l.initial.at l.initial.payload l.value-index l.at l.payload
