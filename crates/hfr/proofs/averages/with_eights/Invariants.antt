-- `hfr::averages::with_eights` meets its contract. The invariant: of each sum the first s values are taken. Assumes nothing.
use Rattle.hfr.proofs.Taken.{Eight}
use Rattle.hfr.proofs.averages.with_eights.Given as goal

abbrev pub invariant-loop-s : goal.invariant-loop-s
invariant-loop-s g l =
    Eight l.xs l.at.a g.B.Bands.STRIDE l.initial.sums.a l.s l.sums.a × Eight l.xs l.at.b g.B.Bands.STRIDE l.initial.sums.b l.s l.sums.b
    × Eight l.xs l.at.c g.B.Bands.STRIDE l.initial.sums.c l.s l.sums.c × Eight l.xs l.at.d g.B.Bands.STRIDE l.initial.sums.d l.s l.sums.d
