-- `quantizer::tables::limit_of` meets its contract: a shift by at most 11 loses no bit. Assumes nothing.
use mathlib.Core.Path.{◌∙◌, ap}
use Prim.Native.Nat.{ℕ, ◌-◌, ◌^◌}
use lib.IntN.{pos}
use mir.Syntax.{w64}
use mir.ValLaws.{to_z-of_z}
use Rattle.rules.specs.Code.{code_limit}
use Rattle.quantizer.proofs.Entries.{one_shifted}
use Rattle.quantizer.proofs.tables.limit_of.Goals as goal

pub returns : goal.returns
unfolding code_limit
returns c =
    let bits = c.magnitude_bits.ensures in
    to_z-of_z w64 c.from.result (record { sfits = c.from.type_inv })
    ∙ c.from.ensures
    ∙ ap (λ (n : ℕ). pos (n - 1)) (one_shifted c.magnitude_bits.result bits.1)
    ∙ ap (λ (n : ℕ). pos (2 ^ n - 1)) bits.0
