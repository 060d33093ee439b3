-- `packing_channels::write_factor` meets its contract: the first factor, width 6, and a delta. Assumes nothing.
use Prim.Native.Nat.{◌-◌}
use native.Mathlib.Omega.{arith}
use lib.ListN.{get_or}
use Rattle.widths.specs.Previous.{factor_before}
use Rattle.packing_channels.proofs.Walks.{first_factor, six_factor, later_factor}
use Rattle.packing_channels.proofs.write_factor.Goals as goal

pub overflow_cast-factor : goal.overflow_cast-factor
overflow_cast-factor c = omega (arith, c.type_inv.factors c.args.i)

pub returns-then-i-eq0 : goal.returns-then-i-eq0
returns-then-i-eq0 c =
    let a = c.args in
    let w = c.write.ensures in (
      rw (first_factor a.width a.i (get_or a.factors.now (a.i - 1) 0) (get_or a.factors.now a.i 0)
          c.if-i-eq0.true)
          w.0,
      omega arith,
    )

pub overflow_cast-factor-then-width-eq6 : goal.overflow_cast-factor-then-width-eq6
overflow_cast-factor-then-width-eq6 c = omega (arith, c.type_inv.factors c.args.i)

pub returns-then-width-eq6 : goal.returns-then-width-eq6
returns-then-width-eq6 c =
    let a = c.args in
    let w = c.write-then-width-eq6.ensures in (
      rw (six_factor a.width (factor_before a.i (get_or a.factors.now (a.i - 1) 0)) (get_or a.factors.now a.i 0)
          c.if-width-eq6.true) w.0,
      omega arith,
    )

pub returns : goal.returns
returns c =
    let a = c.args in
    let w = c.write_delta.ensures in (
      rw (later_factor a.width a.i (get_or a.factors.now (a.i - 1) 0) (get_or a.factors.now a.i 0) c.if-i-eq0.false c.if-width-eq6.false)
          w.0,
      omega arith,
    )
