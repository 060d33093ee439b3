-- `packing_codes::fields_of` meets its contract. The invariant: the first b bands' fields stand in the columns. Assumes nothing.
use Rattle.buffers.proofs.Build.{Filled}
use Rattle.packing_codes.specs.Columns.{length_at, word_at}
use Rattle.packing_codes.proofs.fields_of.Given as goal

abbrev pub invariant-loop-b : goal.invariant-loop-b
invariant-loop-b l =
    Filled (word_at l.rows l.codes) l.initial.words l.b l.words × Filled (length_at l.rows l.codes) l.initial.lengths l.b l.lengths
