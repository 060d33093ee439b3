-- `emission::Run::put_all` meets its contract. The invariant: the first 4 * four fields are there. Assumes nothing.
use Prim.Native.Nat.{◌+◌, ◌*◌, ◌≤◌}
use lib.ListN.{take}
use Rattle.emission.specs.Run.{Emits, field_bits}
use Rattle.emission.proofs.Run.put_all.Given as goal

abbrev pub invariant-loop-four : goal.invariant-loop-four
invariant-loop-four l =
    Emits l.initial.run l.initial.payload (field_bits (take (l.four * 4) l.lengths) (take (l.four * 4) l.words)) l.run l.payload
    × (8 * l.run.at + l.run.n ≤ 8 * l.initial.run.at + l.initial.run.n + 48 * l.four)
