-- `band_counts::eight::sizes_of` meets its contract. The invariant: the first i magnitudes are stored, of single floats. Assumes nothing.
use Prim.Native.Nat.{ℕ, ◌<◌}
use lib.Dec.{T}
use lib.Ieee.{binary32, fits}
use Rattle.buffers.proofs.Build.{Filled}
use Rattle.floats.specs.Single.{abs_f}
use Rattle.band_counts.specs.Counts.{value_at}
use Rattle.band_counts.proofs.eight.sizes_of.Given as goal

abbrev pub invariant-loop-i : goal.invariant-loop-i
invariant-loop-i l =
    Filled (λ s. abs_f (value_at l.e s)) l.initial.sizes l.i l.sizes × ((s : ℕ) → s < l.i → T (fits binary32 (value_at l.e s)))
