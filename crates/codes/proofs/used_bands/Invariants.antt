-- `codes::used_bands` meets its contract. The invariant: from 8 n on every resolution is 0. Assumes nothing.
use Prim.Native.Nat.{◌*◌}
use Rattle.codes.specs.Bands.{SilentFrom}
use Rattle.codes.proofs.used_bands.Given as goal

abbrev pub invariant-loop-n : goal.invariant-loop-n
invariant-loop-n l = SilentFrom (l.n * 8) l.resolutions
