-- `factors::calculate_scale_factors` meets its contract. The invariant: the first c channels are done. Assumes nothing.
use mathlib.Core.List.{List}
use Prim.Native.Nat.{ℕ}
use lib.Ieee.{Float}
use Rattle.buffers.proofs.Blocks.{Blocked}
use Rattle.rules.specs.Layout.{coded_count_at, part}
use Rattle.rules.specs.Factor.{channel_factors}
use Rattle.rules.specs.declared.Layout.{Layout}
use Rattle.factors.proofs.calculate_scale_factors.Given as goal

abbrev pub factors_at : Layout → List Float → ℕ → List ℕ
factors_at l xs c = channel_factors (part 1024 xs c) (coded_count_at l c)

abbrev pub invariant-loop-c : goal.invariant-loop-c
invariant-loop-c l = Blocked (factors_at l.layout l.spectra) 128 l.initial.factors l.c l.factors
