-- `quantizer::tables::whole_step` meets its contract. Assumes nothing.
use mathlib.Core.Path.{◌≡◌}
use Prim.Native.Nat.{◌-◌, ◌*◌, ◌%◌, ◌^◌}
use native.Mathlib.Omega.{arith}
use Rattle.quantizer.proofs.Entries.{shift_low, shift_high, one_shifted, power_le}
use Rattle.quantizer.proofs.tables.whole_step.Goals as goal

pub returns-then-r-lt8 : goal.returns-then-r-lt8
returns-then-r-lt8 c = (shift_low c.args.r c.if-r-lt8.true, omega arith)

pub returns-else-r-lt8 : goal.returns-else-r-lt8
returns-else-r-lt8 c =
    let r = c.args.r in
    let is : (1 * 2 ^ (r - 4)) % 2 ^ 32 ≡ 2 ^ (r - 4) = one_shifted (r - 4) (omega arith) in
    (rw is (shift_high r c.if-r-lt8.false c.requires), rw is (power_le (r - 4) (omega arith)).1)
