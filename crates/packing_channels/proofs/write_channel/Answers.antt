-- `packing_channels::write_channel` meets its contract: the factors, then the side values. Assumes nothing.
use native.Mathlib.Omega.{arith}
use lib.Seq.{length-take-le}
use Rattle.emission.proofs.Runs.{emits_then}
use Rattle.rules.specs.Layout.{coded_count_at, side_count_at}
use Rattle.packing_channels.proofs.write_channel.Goals as goal

pub returns : goal.returns
unfolding coded_count_at side_count_at
returns c =
    let w = c.write_scale_factors-next.ensures in
    let v = c.write_side.ensures in
    let coded = c.coded_count-coded.ensures.0 in
    let count = c.side_count-count.ensures.0 in
    let width = c.side_width-width.ensures.0 in
    let e = length-take-le c.side_count-count.result c.args.side.now (omega (arith, c.side_count-count.ensures.1)) in
    (rw (← coded, ← count, ← width) (emits_then w.0 (rw e at v.0)), omega arith)
