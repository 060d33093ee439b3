-- `emission::Run::close` meets its contract. Assumes nothing.
use Rattle.emission.proofs.Stores.{Cleared}
use Rattle.emission.proofs.Run.close.Given as goal

abbrev pub invariant-loop-i : goal.invariant-loop-i
invariant-loop-i l = Cleared l.initial.payload l.initial.i l.i l.payload
