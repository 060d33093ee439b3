-- `read_side` stores each value that it reads. Assumes nothing.
use mathlib.Core.Path.{◌≡◌, refl}
use native.Mathlib.Omega.{arith}
use lib.ListN.{length}
use lib.Pow.{pow_mono}
use Rattle.reader_channels.proofs.Walks.{going_more, going_all}
use Rattle.reader_channels.proofs.rows.read_side.Goals as goal

pub loop-slot-preserved : goal.loop-slot-preserved
loop-slot-preserved c =
    going_more c.loop-slot.invariant tt refl (omega arith) (pow_mono {i = c.args.width} {j = 6} (omega arith)) c.in_ok-value.was c.read_number.ensures

pub returns : goal.returns
returns c =
    let a = c.args in
    let z : length a.side.now ≡ 8 = omega arith in
    going_all c.loop-slot.invariant 8 c.loop-slot.at refl (omega arith) (omega arith) c.clear.new.s (length a.side.now) c.clear.ensures z
