-- `factors::factors_of` meets its contract. The invariant: the first b are stored. Assumes nothing.
use Prim.Native.Nat.{ℕ}
use lib.Ieee.{nan}
use lib.ListN.{get_or}
use Rattle.buffers.proofs.Build.{Filled}
use Rattle.rules.specs.Factor.{factor_of}
use Rattle.factors.proofs.factors_of.Given as goal

abbrev pub invariant-loop-b : goal.invariant-loop-b
invariant-loop-b l = Filled (λ (i : ℕ). factor_of (get_or l.tops i nan)) l.initial.factors l.b l.factors
