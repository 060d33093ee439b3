-- `codes::quantize_spectra` meets its contract. The invariant: the first c channels are stored. Assumes nothing.
use Rattle.buffers.proofs.Blocks.{Blocked}
use Rattle.codes.proofs.Bands.{codes_at}
use Rattle.codes.proofs.quantize_spectra.Given as goal

abbrev pub invariant-loop-c : goal.invariant-loop-c
invariant-loop-c l = Blocked (codes_at l.layout.mode l.resolutions l.scaled) 1024 l.initial.codes l.c l.codes
