-- `stereo_mixing::subframe::energies_of` meets its contract. Assumes nothing.
use Rattle.std.proofs.lemmas.Slice.Zip.{zip_turn, zip_end}
use native.Mathlib.Omega.{arith}
use mathlib.Core.Path.{ap₂}
use lib.Ieee.{nan, add, binary32, of_bits}
use lib.ListN.{get_or}
use Rattle.stereo_mixing.proofs.Searches.{summed_none, summed_more, energies-is}
use Rattle.stereo_mixing.proofs.subframe.energies_of.Goals as goal

pub loop-x-init : goal.loop-x-init
unfolding of_bits
loop-x-init c = (summed_none _, summed_none _, summed_none _)

pub loop-x-preserved : goal.loop-x-preserved
loop-x-preserved c =
    let xs = c.args.lefts.now in
    let ys = c.args.rights.now in
    let i = c.loop-x.invariant in
    let t = zip_turn xs ys c.loop-x.yielded c.into_iter-x-iterator.result c.loop-x.x-iterator c.next.new.self c.next.result (cc) (cc)
    c.loop-x.yielded_by (c.in-Some.field-0-0, c.in-Some.field-0-1) c.in-Some.is c.next.ensures.steps in (
      summed_more (λ k. get_or xs k nan) _ _ _ _ _ i.0 c.add_magnitude-left.ensures (t.2 nan),
      summed_more (λ k. get_or ys k nan) _ _ _ _ _ i.1 c.add_magnitude-right.ensures (t.3 nan),
      summed_more (λ k. add binary32 (get_or xs k nan) (get_or ys k nan)) _ _ _ _ _ i.2 c.add_magnitude-total.ensures
          (ap₂ (add binary32) (t.2 nan) (t.3 nan)),
    )

pub returns : goal.returns
unfolding of_bits
returns c =
    let xs = c.args.lefts.now in
    let ys = c.args.rights.now in
    let i = c.loop-x.invariant in
    let e = zip_end xs ys c.loop-x.yielded c.into_iter-x-iterator.result c.loop-x.x-iterator c.next.new.self c.next.result (cc) (cc)
    c.loop-x.yielded_by c.in-None.is c.next.ensures.steps in
    energies-is xs ys _ _ _ _ (omega (arith, e, c.requires)) i.0 i.1 i.2
