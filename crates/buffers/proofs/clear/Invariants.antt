-- `buffers::clear` meets its contract. The invariant: the first values are the zero, and the others as they were. Assumes nothing.
use Prim.Native.Nat.{ℕ}
use Rattle.buffers.proofs.Build.{Filled}
use Rattle.buffers.proofs.clear.Given as goal

abbrev pub invariant-loop-x : goal.invariant-loop-x
invariant-loop-x g l = Filled (λ (n : ℕ). g.T.Zero.ZERO) l.initial.x-items l.x-index l.x-items
