-- `quantizer::tables::step_of` meets its contract: the whole number is exact as an f32. Assumes nothing.
use mathlib.Core.Path.{◌∙◌, ap}
use Prim.Native.Nat.{◌≤◌, ◌^◌}
use native.Mathlib.Omega.{arith}
use lib.Dec.{le→leb}
use lib.IntN.{ℤ}
use lib.Ieee.{binary32, of_bits, of_int, sub, in_float}
use Rattle.quantizer.proofs.Entries.{step-entry}
use Rattle.quantizer.proofs.tables.step_of.Goals as goal

pub int_to_float-result : goal.int_to_float-result
unfolding in_float
int_to_float-result c =
    let small : c.whole_step.result ≤ 2 ^ 24 = omega arith in
    le→leb _ _ small

pub returns : goal.returns
returns c =
    ap (λ (z : ℤ). sub binary32 (of_int binary32 z) (of_bits binary32 0x3F000000)) c.whole_step.ensures.0
    ∙ step-entry c.args.r c.requires
