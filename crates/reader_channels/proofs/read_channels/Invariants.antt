-- `read_channels` reads each channel into its part: at each turn, the channels stored and then what is left to read. Assumes nothing.
use Rattle.bits.specs.Place.{left_at}
use Rattle.rules.specs.Format.{each}
use Rattle.rules.specs.Layout.{kinds_of}
use Rattle.rules.specs.Reading.{read_channel}
use Rattle.reader_channels.proofs.HeaderChannels.{Reading}
use Rattle.reader_channels.proofs.read_channels.Given as goal

abbrev pub invariant-loop-c : goal.invariant-loop-c
invariant-loop-c l =
    Reading l.layout l.part (each (read_channel l.layout) (kinds_of l.layout) (left_at l.part l.initial.at.at)) l.c l.at.at l.factors l.side
