-- `line_turns::encode_turns` meets its contract. The invariant: the line so far, every frame delivered, the same loan. Assumes nothing.
use Rattle.rules_line.specs.Line.{line_lent}
use Rattle.line_turns.proofs.Going.{Going}
use Rattle.line_turns.proofs.encode_turns.Given as goal

abbrev pub invariant-loop-k : goal.invariant-loop-k
invariant-loop-k g l =
    let s = g.S.SingleCall in
    Going s.step l.layout (line_lent (s.spectra l.initial.call) (s.intensities l.initial.call) l.initial.scaled l.initial.codes l.initial.factors
    l.initial.side l.initial.frames l.initial.answers l.initial.tally) l.k l.tally (s.spectra l.call) (s.intensities l.call) l.scaled l.codes l.factors l.side
    l.frames l.answers × s.same l.initial.call l.call
