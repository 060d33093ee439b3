-- `read_delta`: a delta of up to 5 bits is below 64. Assumes nothing.
use Prim.Native.Nat.{◌^◌, ◌≤◌}
use native.Mathlib.Omega.{arith}
use lib.Pow.{pow_mono}
use Rattle.reader_channels.proofs.values.read_delta.Goals as goal

pub delta_factor-requires : goal.delta_factor-requires
delta_factor-requires c =
    let g : 2 ^ c.args.d ≤ 2 ^ 5 = pow_mono {i = c.args.d} {j = 5} (omega arith) in
    (omega arith, omega arith, omega (arith, c.in_ok-v.ensures.small))
