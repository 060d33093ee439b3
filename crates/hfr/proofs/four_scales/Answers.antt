-- `hfr::four_scales` meets its contract. Assumes nothing.
use Prim.Native.Nat.{◌+◌}
use native.Mathlib.Omega.{arith}
use lib.ListN.{length-set}
use Rattle.hfr.specs.Sums.{scale_at}
use Rattle.hfr.proofs.Side.{place-fits, scale_at_lem, four_set_lem}
use Rattle.hfr.proofs.four_scales.Goals as goal

pub bounds-side-group : goal.bounds-side-group
bounds-side-group c =
    omega (arith, c.requires.spectra_len.2, c.requires.spectra_len.3)

pub overflow_add-group : goal.overflow_add-group
overflow_add-group c =
    place-fits _ 1 c.requires.spectra_len.3 (omega arith)

pub overflow_add-side : goal.overflow_add-side
overflow_add-side c =
    place-fits _ 1 c.requires.spectra_len.3 (omega arith)

pub bounds-side-group-2 : goal.bounds-side-group-2
bounds-side-group-2 c =
    simp length-set (omega (arith, c.requires.spectra_len.2, c.requires.spectra_len.3))

pub overflow_add-group-2 : goal.overflow_add-group-2
overflow_add-group-2 c =
    place-fits _ 2 c.requires.spectra_len.3 (omega arith)

pub overflow_add-side-2 : goal.overflow_add-side-2
overflow_add-side-2 c =
    place-fits _ 2 c.requires.spectra_len.3 (omega arith)

pub bounds-side-group-3 : goal.bounds-side-group-3
bounds-side-group-3 c =
    simp length-set (omega (arith, c.requires.spectra_len.2, c.requires.spectra_len.3))

pub overflow_add-group-3 : goal.overflow_add-group-3
overflow_add-group-3 c =
    place-fits _ 3 c.requires.spectra_len.3 (omega arith)

pub scale_of-requires-4 : goal.scale_of-requires-4
scale_of-requires-4 c =
    record { count_bound = (c.hfr_spectra_averages-spectrum.ensures.count_bound.3, c.hfr_source_averages-source.ensures.count_bound.3) }

pub overflow_add-side-3 : goal.overflow_add-side-3
overflow_add-side-3 c =
    place-fits _ 3 c.requires.spectra_len.3 (omega arith)

pub bounds-side-group-4 : goal.bounds-side-group-4
bounds-side-group-4 c =
    simp length-set (omega (arith, c.requires.spectra_len.2, c.requires.spectra_len.3))

pub returns : goal.returns
returns c =
    let a = c.args in
    let x = c.hfr_spectra_averages-spectrum.ensures.are_four in
    let y = c.hfr_source_averages-source.ensures.are_four in
    let of = scale_at_lem a.layout a.spectra.now a.scaled.now in
    let g = c.groups-groups.ensures.0 in
    four_set_lem (scale_at a.layout a.spectra.now a.scaled.now) a.group a.side.now _ _ _ _ (
      of a.group _ _ _ _ g x.0 y.0 c.scale_of.ensures,
      of (a.group + 1) _ _ _ _ g x.1 y.1 c.scale_of-2.ensures,
      of (a.group + 2) _ _ _ _ g x.2 y.2 c.scale_of-3.ensures,
      of (a.group + 3) _ _ _ _ g x.3 y.3 c.scale_of-4.ensures,
    )
