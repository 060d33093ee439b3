-- `read_side` reads each side value: at each turn, what is stored and then what is left to read. Assumes nothing.
use Rattle.bits.specs.Place.{left_at}
use Rattle.rules.specs.Format.{stay, each, times, number}
use Rattle.reader_channels.proofs.Walks.{Going}
use Rattle.reader_channels.proofs.rows.read_side.Given as goal

abbrev pub invariant-loop-slot : goal.invariant-loop-slot
invariant-loop-slot l =
    Going stay (λ _ _. number l.width) l.part (each (λ _. number l.width) (times l.count) (left_at l.part l.initial.at.at)) l.count l.slot-index tt l.at.at l.slot-items
