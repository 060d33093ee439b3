-- `sealing::is_sealed` meets its contract: the two bytes are compared as one number.
-- Assumes nothing.
use mathlib.Core.Path.{◌≡◌, ap, ap₂, ◌∙◌}
use Prim.Native.Nat.{◌+◌, ◌-◌, ◌*◌}
use native.Mathlib.Omega.{arith}
use lib.Dec.{eqb}
use lib.ListN.{length, get_or}
use Rattle.crc.specs.Sealed.{is_sealed}
use Rattle.sealing.proofs.is_sealed.Goals as goal

pub returns : goal.returns
unfolding is_sealed
returns c =
    let f = c.args.frame.now in
    let last : length f - 2 + 1 ≡ length f - 1 = omega arith in
    ap₂ eqb (c.from_be_bytes-stored.ensures ∙ ap (λ i. get_or f (length f - 2) 0 * 256 + get_or f i 0) last) c.crc16_checksum-sum.ensures
