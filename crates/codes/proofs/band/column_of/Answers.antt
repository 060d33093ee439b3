-- `codes::band::column_of` meets its contract: step + 0.5 is whole, and exact 2 ^ 23 further. Assumes nothing.
use mathlib.Core.Path.{sym, subst}
use mathlib.Core.Bool.{not}
use lib.Dec.{T}
use lib.Ieee.{Float, binary32, of_bits, add, is_nan}
use Rattle.codes.proofs.Columns.{zero_number, column_made}
use Rattle.codes.proofs.band.column_of.Goals as goal

pub returns : goal.returns
returns c =
    let step = c.step_of-step in
    column_made c.args.mode c.args.resolution c.requires step.result c.top_of.result step.ensures c.top_of.ensures

pub float_to_bits-result : goal.float_to_bits-result
float_to_bits-result c =
    subst (λ (x : Float). T (not (is_nan (add binary32 (add binary32 x (of_bits binary32 0x3F000000)) (of_bits binary32 0x4B000000)))))
    (sym c.step_of-step.ensures) (zero_number c.args.resolution c.requires)
