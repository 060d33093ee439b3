-- `resolutions::calculate_frame_resolutions` meets its contract. The invariant: the first c channels are stored. Assumes nothing.
use Rattle.buffers.proofs.Blocks.{Blocked}
use Rattle.rules.proofs.Bands.{resolutions_at}
use Rattle.resolutions.proofs.calculate_frame_resolutions.Given as goal

abbrev pub invariant-loop-c : goal.invariant-loop-c
invariant-loop-c l = Blocked (resolutions_at l.layout l.level l.boundary l.factors) 128 l.initial.resolutions l.c l.resolutions
