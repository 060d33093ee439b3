-- `resolutions::noise_curve::read_curve` meets its contract. Assumes nothing.
use Prim.Native.Nat.{◌+◌}
use native.Mathlib.Omega.{arith}
use Rattle.resolutions.proofs.Stretches.{place-le, curve_read, curve_le}
use Rattle.resolutions.proofs.noise_curve.read_curve.Goals as goal

pub bounds-curve-place : goal.bounds-curve-place
bounds-curve-place c = omega (arith, place-le c.args.factor, c.requires.2, c.requires.3)

pub returns : goal.returns
returns c =
    let a = c.args in (
      curve_read a.layout a.curve.now c.requires.0 a.factor a.noise a.place c.requires.1 c.requires.3 c.requires.2,
      curve_le a.layout a.curve.now c.requires.0 (a.place + a.noise),
    )
