-- `writer::legality::legal_subframe` meets its contract. The invariant: the first b codes are legal. Assumes nothing.
use mathlib.Core.Path.{◌≡◌}
use mathlib.Core.Bool.{true}
use Rattle.buffers.specs.Walk.{every}
use Rattle.rules.specs.Record.{legal_band}
use Rattle.writer.proofs.legality.legal_subframe.Given as goal

abbrev pub invariant-loop-b : goal.invariant-loop-b
invariant-loop-b l = every (legal_band l.resolutions l.codes) l.b ≡ true
