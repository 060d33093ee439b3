-- `hca_layout::channels_of` meets its contract. The invariant: the first i channels are as they are named. Assumes nothing.
use Rattle.buffers.proofs.Build.{Filled}
use Rattle.hca_layout.specs.Layouts.{channel_at}
use Rattle.hca_layout.proofs.channels_of.Given as goal

abbrev pub invariant-loop-i : goal.invariant-loop-i
invariant-loop-i l = Filled (channel_at l.kinds) l.initial.channel-items l.i l.channel-items
