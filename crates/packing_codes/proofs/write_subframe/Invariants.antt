-- `packing_codes::write_subframe` meets its contract. The invariant: the first c channels are there. Assumes nothing.
use mathlib.Core.Path.{◌≡◌}
use lib.ListN.{length}
use Rattle.emission.proofs.Loops.{Sent}
use Rattle.rules.specs.Format.{each_bits}
use Rattle.packing_codes.specs.Columns.{rule_bits, padded_rows, padded_codes}
use Rattle.packing_codes.proofs.write_subframe.Given as goal

abbrev pub invariant-loop-c : goal.invariant-loop-c
invariant-loop-c l =
    Sent (λ k. each_bits rule_bits (padded_rows l.layout l.rows k) (padded_codes l.layout l.codes l.subframe k)) 1536 l.initial.at l.initial.payload l.c l.at l.payload
    × (length l.words ≡ length l.initial.words)
    × (length l.lengths ≡ length l.initial.lengths)
