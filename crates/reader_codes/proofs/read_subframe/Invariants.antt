-- `reader_codes::read_subframe` meets its contract. The invariant is `Upto` of `CodeChannels.antt`. Assumes nothing.
use Rattle.reader_codes.proofs.CodeChannels.{Upto}
use Rattle.reader_codes.proofs.read_subframe.Given as goal

abbrev pub invariant-loop-c : goal.invariant-loop-c
invariant-loop-c l = Upto l.layout l.subframe l.part l.resolutions l.initial.codes l.initial.at.at l.codes l.at.at l.c
