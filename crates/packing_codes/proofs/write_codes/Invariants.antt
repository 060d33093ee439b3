-- `packing_codes::write_codes` meets its contract. The invariant: the first s subframes are there. Assumes nothing.
use mathlib.Core.Path.{◌≡◌}
use lib.ListN.{length}
use Rattle.buffers.specs.Walk.{build}
use Rattle.emission.proofs.Loops.{Sent}
use Rattle.rules.specs.Format.{each_bits}
use Rattle.rules.specs.Record.{codes_in}
use Rattle.rules.specs.Fields.{code_bits}
use Rattle.resolutions.specs.Coded.{coded_resolutions}
use Rattle.packing_codes.proofs.write_codes.Given as goal

abbrev pub invariant-loop-s : goal.invariant-loop-s
invariant-loop-s l =
    Sent (λ k. each_bits (each_bits code_bits) (build (coded_resolutions l.layout l.resolutions) l.layout.channels)
    (build (codes_in l.layout l.codes k) l.layout.channels)) 24576
    l.initial.at l.initial.payload l.s l.at l.payload
    × (length l.words ≡ length l.initial.words)
    × (length l.lengths ≡ length l.initial.lengths)
