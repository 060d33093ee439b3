-- `packing_channels::write_channels` meets its contract. The invariant: the first c channels are written. Assumes nothing.
use Rattle.rules.specs.Layout.{kind_at}
use Rattle.rules.specs.Record.{chan_of}
use Rattle.rules.specs.Fields.{channel_fields}
use Rattle.emission.proofs.Loops.{Sent}
use Rattle.packing_channels.proofs.write_channels.Given as goal

abbrev pub invariant-loop-c : goal.invariant-loop-c
invariant-loop-c l =
    Sent (λ k. channel_fields l.layout (kind_at l.layout k) (chan_of l.layout l.factors l.side k)) 1459 l.initial.at l.initial.payload l.c l.at l.payload
