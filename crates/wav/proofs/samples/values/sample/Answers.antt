-- `wav::samples::values::sample` meets its contract. Assumes nothing.
use mathlib.Core.Path.{sym, ◌∙◌, subst}
use native.Mathlib.Omega.{arith}
use lib.Dec.{T}
use lib.IntN.{ℤ}
use lib.Ieee.{binary32, of_bits, in_float}
use mir.Syntax.{w32}
use mir.Facts.{to_z-of_z}
use Rattle.std.proofs.Common.{rules}
use Rattle.wav.proofs.Patterns.{signed_in, at_16, at_24, at_32, depth_32, pattern_32}
use Rattle.wav.proofs.samples.values.sample.Goals as goal

-- the integer that `signed` gives, out of its bits
pub int_to_float-result : goal.int_to_float-result
int_to_float-result c =
    let whole = to_z-of_z {w = w32} (record { sfits = c.signed.type_inv }) ∙ c.signed.ensures in
    subst (λ (z : ℤ). T (in_float binary32 z)) (sym whole) (signed_in _ _ (omega arith) c.get_low.ensures.1).1

pub returns-in-16 : goal.returns-in-16
unfolding of_bits
returns-in-16 c =
    let whole = to_z-of_z {w = w32} (record { sfits = c.signed.type_inv }) ∙ c.signed.ensures in
    at_16 c.args.wav.now c.args.at _ _ c.in-16.is c.get_low.ensures.0 c.get_low.ensures.1 _ whole

pub int_to_float-result-in-24 : goal.int_to_float-result-in-24
int_to_float-result-in-24 c =
    let whole = to_z-of_z {w = w32} (record { sfits = c.signed-in-24.type_inv }) ∙ c.signed-in-24.ensures in
    subst (λ (z : ℤ). T (in_float binary32 z)) (sym whole) (signed_in _ _ (omega arith) c.get_low-in-24.ensures.1).1

pub returns-in-24 : goal.returns-in-24
unfolding of_bits
returns-in-24 c =
    let whole = to_z-of_z {w = w32} (record { sfits = c.signed-in-24.type_inv }) ∙ c.signed-in-24.ensures in
    at_24 c.args.wav.now c.args.at _ _ c.in-24.is c.get_low-in-24.ensures.0 c.get_low-in-24.ensures.1 _ whole

pub get_low-requires-in_default : goal.get_low-requires-in_default
get_low-requires-in_default c = (omega (arith, depth_32 _ c.requires.depth_value.0 (search rules) (search rules)), omega arith)

pub float_from_bits-result : goal.float_from_bits-result
float_from_bits-result c =
    pattern_32 c.args.wav.now c.args.at _ _ (depth_32 _ c.requires.depth_value.0 (search rules) (search rules))
    c.get_low-in_default.ensures.0 c.requires.depth_value_2

pub returns-in_default : goal.returns-in_default
returns-in_default c =
    at_32 c.args.wav.now c.args.at _ _ (depth_32 _ c.requires.depth_value.0 (search rules) (search rules)) c.get_low-in_default.ensures.0
