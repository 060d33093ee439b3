-- `search_level::binary_search_level` meets its contract. Assumes nothing.
use mathlib.Core.Path.{◌≡◌, sym}
use Prim.Native.Nat.{ℕ, ◌≤◌}
use native.Mathlib.Omega.{arith}
use lib.ListN.{length, take, replicate, length-replicate}
use lib.Seq.{length-take-le}
use Rattle.search_level.proofs.binary_search_level.Goals as goal

-- the array has room for the part that is lent
front : (m n v : ℕ) → n ≤ m → length (take n (replicate m v)) ≡ n
front m n v h = length-take-le n (replicate m v) (rw (length-replicate m v) h)

pub slice_bounds-halve_with_places-end : goal.slice_bounds-halve_with_places-end
slice_bounds-halve_with_places-end c = sym (front 256 _ 0 (omega (arith, c.if-probe-lt3.true)))

pub halve_with_places-requires : goal.halve_with_places-requires
halve_with_places-requires c =
    let p = c.requires in
    record { probe_fits = p.probe_fits; places_len = front 256 _ 0 (omega (arith, c.if-probe-lt3.true)) }

pub slice_bounds-halve_with_places-end-2 : goal.slice_bounds-halve_with_places-end-2
slice_bounds-halve_with_places-end-2 c = sym (front 2048 _ 0 (omega (arith, c.requires.probe_fits.legal.few)))

pub halve_with_places-requires-2 : goal.halve_with_places-requires-2
halve_with_places-requires-2 c =
    let p = c.requires in
    record { probe_fits = p.probe_fits; places_len = front 2048 _ 0 (omega (arith, p.probe_fits.legal.few)) }
