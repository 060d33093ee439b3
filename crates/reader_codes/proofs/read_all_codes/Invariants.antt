-- `reader_codes::read_all_codes` meets its contract. The invariant is `Eight` of `Eight.antt`. Assumes nothing.
use Rattle.reader_codes.proofs.Eight.{Eight}
use Rattle.reader_codes.proofs.read_all_codes.Given as goal

abbrev pub invariant-loop-subframe : goal.invariant-loop-subframe
invariant-loop-subframe l = Eight l.layout l.part l.resolutions l.initial.codes l.initial.at.at l.codes l.at.at l.subframe
