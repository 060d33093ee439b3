-- `hfr::averages::averages_of` meets its contract. The invariant: of each group the first j bands are taken, as far as it has them. Assumes nothing.
use Prim.Native.Nat.{◌≤◌, ◌*◌}
use Rattle.hfr.specs.Sums.{AreFour}
use Rattle.hfr.proofs.Taken.{Lane}
use Rattle.hfr.proofs.averages.averages_of.Given as goal

abbrev pub invariant-loop-j : goal.invariant-loop-j
invariant-loop-j g l =
    AreFour (Lane l.xs (g.B.Bands.place l.bands) g.B.Bands.STRIDE l.g l.limit l.j) l.group l.averages.a l.averages.b l.averages.c l.averages.d
    × (l.averages.a.count ≤ 8 * l.j) × (l.averages.b.count ≤ 8 * l.j) × (l.averages.c.count ≤ 8 * l.j) × (l.averages.d.count ≤ 8 * l.j)
