-- `read_factors` is `read_factors`: at each turn, what is stored and then what is left to read. Assumes nothing.
use Prim.Native.Nat.{◌≤◌}
use Rattle.bits.specs.Place.{left_at}
use Rattle.rules.specs.Fields.{as_previous}
use Rattle.rules.specs.Reading.{read_factor, read_factors}
use Rattle.reader_channels.specs.Values.{before}
use Rattle.reader_channels.proofs.Walks.{Going}
use Rattle.reader_channels.proofs.rows.read_factors.Given as goal

abbrev pub invariant-loop-slot : goal.invariant-loop-slot
invariant-loop-slot l =
    (1 ≤ l.width)
    × Going as_previous (λ p _. read_factor l.width p) l.part (read_factors l.width l.coded (left_at l.part l.initial.at.at)) l.coded l.slot-index (before l.previous) l.at.at l.slot-items
