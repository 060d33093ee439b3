-- `reader::record::read_fields` reads level, boundary, channels and codes, or hands on the first refusal. Assumes nothing.
use mathlib.Core.Path.{◌∙◌}
use Rattle.std.proofs.lemmas.Result.{err_from_is_err_and}
use Rattle.reader.proofs.Records.{fields_after, fields_cut}
use Rattle.reader.proofs.record.read_fields.Goals as goal

pub returns-in_err-next : goal.returns-in_err-next
returns-in_err-next c =
    let a = c.args in
    let q = c.requires in
    let r = c.read_head_and_channels in
    let p = err_from_is_err_and c.from_residual-in_err-next.result c.from_residual-in_err-next.ensures.1 in
    rw (p.1, p.2)
    (fields_cut a.layout a.part.now _ _ _ c.in_ok-head.ensures q.legal_layout (r.auto.factors ∙ q.reader_lengths.factors)
    (r.auto.side ∙ q.reader_lengths.side) c.in_err-next.ensures)

pub returns : goal.returns
returns c =
    let a = c.args in
    let q = c.requires in
    let r = c.read_head_and_channels in
    fields_after a.layout a.part.now _ _ _ c.in_ok-head.ensures q.legal_layout (r.auto.factors ∙ q.reader_lengths.factors)
    (r.auto.side ∙ q.reader_lengths.side) c.in_ok-next.ensures
