-- `hca_files::header_reading::store_layout` meets its contract. Assumes nothing.
use native.Mathlib.Omega.{arith}
use lib.ListN.{length-set}
use Rattle.hca_files.proofs.HeaderReadStores.{over_seven}
use Rattle.hca_files.proofs.header_reading.store_layout.Goals as goal

pub bounds-layout-1 : goal.bounds-layout-1
bounds-layout-1 c = simp length-set (omega arith)

pub bounds-layout-2 : goal.bounds-layout-2
bounds-layout-2 c = simp length-set (omega arith)

pub bounds-layout-3 : goal.bounds-layout-3
bounds-layout-3 c = simp length-set (omega arith)

pub bounds-layout-4 : goal.bounds-layout-4
bounds-layout-4 c = simp length-set (omega arith)

pub bounds-layout-5 : goal.bounds-layout-5
bounds-layout-5 c = simp length-set (omega arith)

pub bounds-layout-6 : goal.bounds-layout-6
bounds-layout-6 c = simp length-set (omega arith)

pub returns : goal.returns
returns c =
    over_seven c.args.layout.now _ _ _ _ _ _ _ c.requires.in_bounds
