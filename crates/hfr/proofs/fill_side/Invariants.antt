-- `hfr::fill_side` meets its contract. The invariant: the first c channels are filled. Assumes nothing.
use Rattle.buffers.proofs.Blocks.{Blocked}
use Rattle.rules.specs.Hfr.{side_of}
use Rattle.hfr.proofs.fill_side.Given as goal

abbrev pub invariant-loop-c : goal.invariant-loop-c
invariant-loop-c l = Blocked (side_of l.layout l.spectra l.scaled l.intensities) 8 l.initial.side l.c l.side
