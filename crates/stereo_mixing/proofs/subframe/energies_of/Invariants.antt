-- `stereo_mixing::subframe::energies_of` meets its contract. The invariant: each sum is that of the bands so far. Assumes nothing.
use lib.Ieee.{nan, add, binary32}
use lib.ListN.{get_or, length}
use Rattle.stereo_mixing.proofs.Searches.{Summed}
use Rattle.stereo_mixing.proofs.subframe.energies_of.Given as goal

abbrev pub invariant-loop-x : goal.invariant-loop-x
invariant-loop-x l =
    let n = length l.yielded in
    Summed (λ k. get_or l.lefts k nan) n l.left
    × Summed (λ k. get_or l.rights k nan) n l.right
    × Summed (λ k. add binary32 (get_or l.lefts k nan) (get_or l.rights k nan)) n l.total
