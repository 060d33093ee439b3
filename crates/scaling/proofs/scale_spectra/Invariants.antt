-- `scaling::scale_spectra` meets its contract. The invariant: the first c channels are scaled. Assumes nothing.
use mathlib.Core.List.{List}
use Prim.Native.Nat.{ℕ}
use lib.Ieee.{Float}
use Rattle.buffers.proofs.Blocks.{Blocked}
use Rattle.rules.specs.Layout.{coded_count_at, part}
use Rattle.rules.specs.Scaling.{channel_scaled}
use Rattle.rules.specs.declared.Layout.{Layout}
use Rattle.scaling.proofs.scale_spectra.Given as goal

abbrev pub scaled_at : Layout → List Float → List ℕ → ℕ → List Float
scaled_at l xs fs c = channel_scaled (part 1024 xs c) (part 128 fs c) (coded_count_at l c)

abbrev pub invariant-loop-c : goal.invariant-loop-c
invariant-loop-c l = Blocked (scaled_at l.layout l.spectra l.factors) 1024 l.initial.scaled l.c l.scaled
