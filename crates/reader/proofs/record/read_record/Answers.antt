-- `reader::record::read_record` is the scan of the part: a refusal in a field, one in the fill, or the record. Assumes nothing.
use mathlib.Core.Path.{ap, ◌∙◌}
use native.Mathlib.Omega.{arith}
use Rattle.reader.specs.Scans.{found_left}
use Rattle.reader.proofs.Records.{fill_in, fault_left, filled}
use Rattle.reader.proofs.record.read_record.Goals as goal

pub after_fill-requires : goal.after_fill-requires
after_fill-requires c = (omega (arith, c.in-Ok.ensures.within), fill_in _ c.first_one.result c.requires.part_len_bound c.first_one.ensures)

pub returns-in-Ok : goal.returns-in-Ok
returns-in-Ok c =
    ap (found_left c.args.layout _ _ _) c.after_fill.ensures
    ∙ filled c.args.layout c.args.part.now _ _ _ c.in-Ok.ensures c.first_one.result c.first_one.ensures

pub returns-in-Err : goal.returns-in-Err
returns-in-Err c = fault_left c.args.layout c.args.part.now _ _ _ c.in_frame.result c.in-Err.ensures c.in_frame.ensures
