-- `wav::chunks::find_data` meets its contract. The invariant: what is left of the walk is the whole walk. Assumes nothing.
use Prim.Native.Nat.{◌-◌}
use lib.ListN.{length}
use Rattle.wav.proofs.Turns.{ToWalk}
use Rattle.wav.proofs.chunks.find_data.Given as goal

abbrev pub invariant-loop-pos : goal.invariant-loop-pos
invariant-loop-pos l = ToWalk l.wav l.pos l.format

abbrev pub decreases-loop-pos : goal.decreases-loop-pos
decreases-loop-pos l = length l.wav - l.pos
