-- `file_header::loop_points::loop_fields` meets its contract: the two cases of the end. Assumes nothing.
use mathlib.Core.Path.{◌≡◌}
use Prim.Native.Nat.{ℕ, ◌+◌, ◌-◌, ◌/◌, ◌%◌}
use borrow.Author.Tests.{eq-eqb, ne_eqb}
use Rattle.rules_files.specs.FileHeader.{loop_fields}
use Rattle.rules_files.specs.declared.header.LoopFields.{LoopFields}
use Rattle.file_header.proofs.loop_points.loop_fields.Goals as goal

abbrev fields_of : (first last delay padding : ℕ) → LoopFields
fields_of first last delay padding = record { start_frame = first; end_frame = last; delay = delay; padding = padding }

module _ (start end : ℕ) where
  on_edge_lem : (end + 128) % 1024 ≡ 0 → fields_of ((start + 128) / 1024) ((end + 128) / 1024 - 1) ((start + 128) % 1024) 0 ≡ loop_fields start end
  unfolding loop_fields
  on_edge_lem e = rw (eq-eqb _ _ e)

  inside : ((end + 128) % 1024 ≡ 0 → ⊥)
      → fields_of ((start + 128) / 1024) ((end + 128) / 1024) ((start + 128) % 1024) (1024 - (end + 128) % 1024) ≡ loop_fields start end
  unfolding loop_fields
  inside e = rw (ne_eqb _ _ e)

pub returns-then-e-eq0 : goal.returns-then-e-eq0
returns-then-e-eq0 c = on_edge_lem c.args.points.start c.args.points.end c.if-e-eq0.true

pub returns : goal.returns
returns c = inside c.args.points.start c.args.points.end c.if-e-eq0.false
