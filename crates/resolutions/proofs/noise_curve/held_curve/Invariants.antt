-- `resolutions::noise_curve::held_curve` meets its contract. The invariant: the first entries are held. Assumes nothing.
use mathlib.Core.List.{List}
use Prim.Native.Nat.{ℕ, min, max}
use lib.ListN.{get_or}
use Rattle.buffers.proofs.Build.{Filled}
use Rattle.resolutions.proofs.noise_curve.held_curve.Given as goal

-- entry k of the curve, within the pair
abbrev pub entry : (plain : List ℕ) (lowest highest k : ℕ) → ℕ
entry plain lowest highest k = min (max (get_or plain k 0) lowest) highest

abbrev pub invariant-loop-entry : goal.invariant-loop-entry
invariant-loop-entry l = Filled (entry l.initial.entry-items l.lowest l.highest) l.initial.entry-items l.entry-index l.entry-items
