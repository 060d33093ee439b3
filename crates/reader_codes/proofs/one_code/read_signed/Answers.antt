-- `reader_codes::one_code::read_signed` meets its contract. Assumes nothing.
use mathlib.Core.Path.{sym, ◌∙◌, subst}
use native.Mathlib.Omega.{arith}
use lib.IntN.{ℤ}
use mir.Syntax.{w32}
use mir.ValLaws.{to_z-of_z}
use Rattle.std.specs.Prelude.{Ok}
use Rattle.bits.specs.Place.{left_at}
use Rattle.reader_codes.specs.CodeAgrees.{signed_code, CodeAgrees}
use Rattle.reader_codes.proofs.CodeAnswers.{field_small, sign_read}
use Rattle.reader_codes.proofs.one_code.read_signed.Goals as goal

pub with_sign-requires : goal.with_sign-requires
with_sign-requires c =
    field_small c.args.part.now c.args.place.at c.magnitude_bits.result 16 (omega (arith, c.magnitude_bits.ensures))
    (sym c.get.ensures ∙ c.in_ok-magnitude.was)

pub returns : goal.returns
returns c =
    let a = c.args in
    let z = to_z-of_z w32 c.with_sign.result (record { sfits = c.with_sign.type_inv }) ∙ c.with_sign.ensures in
    subst (λ (y : ℤ). CodeAgrees a.part.now a.place.at (signed_code a.resolution (left_at a.part.now a.place.at)) (Ok (y, c.in-Ok.end))) (sym z)
    (sign_read a.part.now a.place.at a.resolution c.magnitude_bits.result c.magnitude_bits.ensures.0 (omega arith)
    (sym c.get.ensures ∙ c.in_ok-magnitude.was) c.if-magnitude-eq0.false (sym c.get-2.ensures ∙ c.in-Ok.is))
