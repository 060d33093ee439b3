-- `writer::values::code_range` meets its contract. Assumes nothing.
use mathlib.Core.Path.{sym, ap, ◌∙◌}
use native.Mathlib.Omega.{arith}
use borrow.Author.Tests.{lt-ltb, le-ltb}
use lib.IntN.{pos}
use mir.Syntax.{w64}
use mir.Facts.{to_z_pos}
use mir.ValLaws.{to_z-of_z}
use Rattle.rules.specs.Record.{code_range}
use Rattle.writer.proofs.Ranges.{range_past}
use Rattle.writer.proofs.values.code_range.Goals as goal

pub returns-in-0-to-7 : goal.returns-in-0-to-7
unfolding code_range
returns-in-0-to-7 c = rw (lt-ltb c.args.r 8 (omega arith)) (to_z_pos w64 {n = c.args.r} (omega arith))

pub returns-in-8-to-15 : goal.returns-in-8-to-15
unfolding code_range
returns-in-8-to-15 c =
    rw (le-ltb c.args.r 8 (omega arith)) (to_z-of_z w64 c.limit_of.result (record { sfits = c.limit_of.type_inv }) ∙ c.limit_of.ensures)

pub returns-in_default : goal.returns-in_default
returns-in_default c = sym (ap pos (range_past c.args.r (omega arith)))
