-- `resolutions::noise_curve::fill_places` meets its contract. The invariant: the first b are stored. Assumes nothing.
use Prim.Native.Nat.{ℕ}
use lib.ListN.{get_or}
use Rattle.buffers.proofs.Build.{Filled}
use Rattle.resolutions.specs.Stretched.{place_of}
use Rattle.resolutions.proofs.noise_curve.fill_places.Given as goal

abbrev pub invariant-loop-b : goal.invariant-loop-b
invariant-loop-b l = Filled (λ (b : ℕ). place_of (get_or l.factors b 0)) l.initial.places l.b l.places
