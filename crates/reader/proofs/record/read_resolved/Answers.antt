-- `reader::record::read_resolved` reads the codes by the resolutions that it laid. Assumes nothing.
use mathlib.Core.Path.{sym, ◌∙◌, subst}
use Rattle.buffers.specs.Walk.{AtMost}
use Rattle.resolutions.proofs.Bands.{resolutions-most}
use Rattle.reader.proofs.Records.{resolved}
use Rattle.reader.proofs.record.read_resolved.Goals as goal

pub read_all_codes-requires-clause-resolutions_len : goal.read_all_codes-requires-clause-resolutions_len
read_all_codes-requires-clause-resolutions_len c =
    let p = c.requires in
    let r = c.calculate_frame_resolutions in
    (r.auto.resolutions ∙ p.factors_len.1, p.factors_len.2, subst (AtMost 15) (sym r.ensures) (resolutions-most _ _ _ _ p.legal_layout))

pub returns : goal.returns
returns c = resolved c.args.layout c.args.part.now c.args.head.next.at c.calculate_frame_resolutions.ensures c.read_all_codes.ensures
