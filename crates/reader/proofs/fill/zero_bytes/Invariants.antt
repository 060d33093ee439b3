-- `zero_bytes` meets its contract. The invariant: no 1 was passed. Assumes nothing.
use Prim.Native.Nat.{◌*◌}
use Rattle.reader.specs.Ones.{ZerosBetween}
use Rattle.reader.proofs.fill.zero_bytes.Given as goal

abbrev pub invariant-loop-i : goal.invariant-loop-i
invariant-loop-i l = ZerosBetween l.part (8 * l.from) (8 * l.i)
