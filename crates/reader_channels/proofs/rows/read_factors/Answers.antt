-- `read_factors` stores each factor that it reads, zeros before that. Assumes nothing.
use mathlib.Core.Path.{◌≡◌, refl}
use mathlib.Core.Option.{none, some}
use Prim.Native.Nat.{◌≤◌}
use native.Mathlib.Omega.{arith}
use lib.ListN.{length}
use Rattle.bits.specs.Place.{left_at}
use Rattle.reader_channels.proofs.Walks.{going_none, going_more, going_all, factors-start, factors-none}
use Rattle.reader_channels.proofs.rows.read_factors.Goals as goal

pub returns-then-width-eq0 : goal.returns-then-width-eq0
returns-then-width-eq0 c =
    let a = c.args in
    let z : length a.factors.now ≡ 128 = omega arith in
    factors-none a.part.now a.place (omega arith) a.width a.coded c.if-width-eq0.true (omega arith) c.clear.new.s
    (length a.factors.now) c.clear.ensures z

pub loop-slot-init : goal.loop-slot-init
loop-slot-init c =
    let a = c.args in
    let z : length a.factors.now ≡ 128 = omega arith in
    let h : 1 ≤ a.width = omega arith in (
      h,
      going_none a.coded 128 a.place.at none (omega arith) (factors-start a.width a.coded (left_at a.part.now a.place.at) h)
          (omega arith) c.clear.new.s (length a.factors.now) c.clear.ensures z,
    )

pub loop-slot-preserved : goal.loop-slot-preserved
loop-slot-preserved c =
    let w = c.loop-slot.invariant in (
      w.0,
      going_more w.1 (some c.in_ok-factor.factor) refl (omega arith) (omega arith) c.in_ok-factor.was c.read_factor.ensures,
    )

pub returns : goal.returns
returns c =
    let a = c.args in
    let z : length a.factors.now ≡ 128 = omega arith in
    going_all c.loop-slot.invariant.1 128 c.loop-slot.at refl (omega arith) (omega arith) c.clear.new.s (length a.factors.now) c.clear.ensures z
