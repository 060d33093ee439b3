-- `file_header::reading::read_exact` meets its contract. Assumes nothing.
use mathlib.Core.Path.{ap}
use mathlib.Core.Bool.{not}
use Rattle.rules_files.specs.HeaderReadFits.{ReadFits}
use Rattle.file_header.proofs.Readings.{read_unsealed, read_unnamed, read_bad, read_rest, read_whole}
use Rattle.file_header.proofs.reading.read_exact.Goals as goal

pub returns-then-not-is_sealed : goal.returns-then-not-is_sealed
unfolding ReadFits
returns-then-not-is_sealed c = (read_unsealed _ _ c.is_sealed.ensures (ap not c.if-not-is_sealed.true), tt)

pub returns-then-not-names_right : goal.returns-then-not-names_right
unfolding ReadFits
returns-then-not-names_right c =
    (read_unnamed _ _ c.is_sealed.ensures (ap not c.if-not-is_sealed.false) _ c.names_right.ensures (ap not c.if-not-names_right.true), tt)

pub returns-then-not-fields_right : goal.returns-then-not-fields_right
unfolding ReadFits
returns-then-not-fields_right c = (
  read_bad _ _ c.is_sealed.ensures (ap not c.if-not-is_sealed.false) _ c.names_right.ensures (ap not c.if-not-names_right.false) _ c.fields_of-fields.ensures.0 _
      c.fields_right.ensures (ap not c.if-not-fields_right.true),
  tt,
)

pub returns-then-not-rest_zero : goal.returns-then-not-rest_zero
unfolding ReadFits
returns-then-not-rest_zero c = (
  read_rest _ _ c.is_sealed.ensures (ap not c.if-not-is_sealed.false) _ c.names_right.ensures (ap not c.if-not-names_right.false) _ c.fields_of-fields.ensures.0 _
      c.fields_right.ensures (ap not c.if-not-fields_right.false) _ c.rest_zero.ensures (ap not c.if-not-rest_zero.true),
  tt,
)

pub returns : goal.returns
unfolding ReadFits
returns c = (
  read_whole _ _ c.is_sealed.ensures (ap not c.if-not-is_sealed.false) _ c.names_right.ensures (ap not c.if-not-names_right.false) _ c.fields_of-fields.ensures.0 _
      c.fields_right.ensures (ap not c.if-not-fields_right.false) _ c.rest_zero.ensures (ap not c.if-not-rest_zero.false),
  c.fields_of-fields.ensures.1,
)
